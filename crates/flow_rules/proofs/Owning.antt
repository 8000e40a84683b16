-- The rules over and under a statement keep to the program's own names: what they give of a fact that names only those
-- names only those. A path has room for a field, and the program has the two fields that no class declares.
use Rattle.std.proofs.Common.{◌≡◌, ◌≤◌, ◌⊎◌, ℕ, [], ◌∷◌, inl, inr, sym, subst, ap, ◌∙◌, List, Contains, arith}
use Rattle.clean_base.specs.declared.ids.FieldId.{FieldId}
use Rattle.clean_base.specs.declared.ids.MethodId.{MethodId}
use Rattle.clean_base.specs.declared.ids.StmtId.{StmtId}
use Rattle.ifds_model.specs.declared.node.Leak.{Leak}
use Rattle.access_path.specs.Paths.{inside, rebase, strip, prepend, with_fields, sleep}
use Rattle.access_path.specs.declared.fact.Base.TheVariants as bases
use Rattle.access_path.specs.declared.fact.Fact.{Fact}
use Rattle.access_path.specs.declared.fact.Fact.TheVariants.{Zero, Taint as Tainted}
use Rattle.access_path.specs.declared.fact.Taint.{Taint}
use Rattle.access_path.specs.declared.fact.Wake.TheVariants.{Active, Asleep}
use Rattle.access_path.specs.declared.view.CallView.{CallView}
use Rattle.access_path.specs.declared.view.View.{View}
use Rattle.access_path.specs.declared.view.View.TheVariants.{Copy, Kill, Load, Store, StaticStore, Mix, Call, Return, Throw, Other}
use Rattle.flow_rules.specs.Backward.{ComesFrom, Remains, Under}
use Rattle.flow_rules.specs.Code.{Code, method_of}
use Rattle.flow_rules.specs.Forward.{AsksFor, FromSource, Gives, Leaks, Over, PassesOn, Triggers}
use Rattle.flow_rules.specs.Locals.{Says}
use Rattle.flow_rules.specs.Machine.{Crosses}
use Rattle.flow_rules.specs.Own.{OwnBase, OwnCall, OwnFact, OwnLeak, OwnTaint, OwnView, IsLocalOf, IsStmt}
use Rattle.flow_rules.proofs.OwnPaths.{own_rebase, own_becomes, own_bare, own_inside, own_prepend, own_strip, own_activate, own_sleep, own_on_taints, says_strip, take_some}

module _ (k : ℕ) (code : Code) (some : 1 ≤ k) (fields : 2 ≤ code.fields) (m : MethodId) where
  -- Over a statement

  own_from_source : (view : View) (at : StmtId) (u : Taint) → OwnView code m view → IsStmt code at → FromSource view at u → OwnTaint code k m u
  own_from_source (Call call) at u view stmt from_ = subst (OwnTaint code k m) (sym from_.1.2) (record {
    source = stmt;
    base = view.result from_.1.0 from_.1.1;
    fields = λ f has. absurd (omega (arith, has.1));
    few = omega arith;
    wake = tt;
    says = λ asleep. absurd (let never : Active ≡ Asleep asleep.0 = asleep.1 in cc);
  })
  own_from_source (Copy to from) at u view stmt none = absurd none
  own_from_source (Kill to) at u view stmt none = absurd none
  own_from_source (Load to base field) at u view stmt none = absurd none
  own_from_source (Store base field from) at u view stmt none = absurd none
  own_from_source (StaticStore field from) at u view stmt none = absurd none
  own_from_source (Mix to left right) at u view stmt none = absurd none
  own_from_source (Return value) at u view stmt none = absurd none
  own_from_source (Throw value) at u view stmt none = absurd none
  own_from_source Other at u view stmt none = absurd none

  own_passes_on : (call : CallView) (t u : Taint) → OwnCall code m call → OwnTaint code k m t → Says u → PassesOn call t u → OwnTaint code k m u
  own_passes_on call t u view own says (inl result) =
      own_becomes k code m m call.result (with_fields [] t) u view.result (own_bare k code m t (subst (λ (v : Taint). Says v) result.1.2 says) own) result.1
  own_passes_on call t u view own says (inr into) = own_becomes k code m m call.receiver (with_fields (inside ∷ []) t) u view.receiver (own_inside k code m t some fields own) into.1

  own_gives : (view : View) (t u : Taint) → OwnView code m view → OwnTaint code k m t → Says u → Gives k view t u → OwnTaint code k m u
  own_gives (Copy to from) t u view own says gives = subst (OwnTaint code k m) (sym gives.1) (own_rebase k code m m (bases.Local to) t view.0 own)
  own_gives (Load to base field) t u view own says (inl below) =
      subst (OwnTaint code k m) (sym below.1) (own_rebase k code m m (bases.Local to) (strip t) view.0 (own_strip k code m t (subst (λ (v : Taint). Says v) below.1 says) own))
  own_gives (Load to base field) t u view own says (inr whole) = subst (OwnTaint code k m) (sym whole.2) (own_rebase k code m m (bases.Local to) t view.0 own)
  own_gives (Store base field from) t u view own says gives =
      subst (OwnTaint code k m) (sym gives.1) (own_rebase k code m m (bases.Local base) (prepend k field t) view.0 (own_prepend k code m field t some view.1 own))
  own_gives (StaticStore field from) t u view own says gives = subst (OwnTaint code k m) (sym gives.1) (own_rebase k code m m (bases.Static field) t view.0 own)
  own_gives (Mix to left right) t u view own says gives = subst (OwnTaint code k m) (sym gives.2) (own_rebase k code m m (bases.Local to) t view.0 own)
  own_gives (Call call) t u view own says gives = own_passes_on call t u view own says gives
  own_gives (Throw value) t u view own says gives = subst (OwnTaint code k m) (sym gives.1) (own_rebase k code m m bases.Thrown t tt own)
  own_gives (Kill to) t u view own says none = absurd none
  own_gives (Return value) t u view own says none = absurd none
  own_gives Other t u view own says none = absurd none

  pub own_over : (view : View) (at : StmtId) (f g : Fact) → OwnView code m view → IsStmt code at → OwnFact code k m f → Over k view at f g → OwnFact code k m g
  own_over view at Zero Zero owns stmt own zero_ = tt
  own_over view at Zero (Tainted u) owns stmt own from_ = own_from_source view at u owns stmt from_
  own_over view at (Tainted t) Zero owns stmt own none = absurd none
  own_over view at (Tainted t) (Tainted u) owns stmt own over = elim over [
    | inl gives ↦ own_gives view t u owns own gives.1 gives.0
    | inr stays ↦ subst (OwnTaint code k m) (sym stays.2) own
  ]

  -- Aliases

  own_asks_for : (view : View) (at : StmtId) → OwnView code m view → IsStmt code at → (t u : Taint) → OwnTaint code k m t → AsksFor k view at t u → OwnTaint code k m u
  own_asks_for (Store base field from) at view stmt t u own asks =
      subst (OwnTaint code k m) (sym asks.1) (own_sleep k code m at (rebase (bases.Local base) (prepend k field t)) stmt (take_some k field t.fields some)
      (own_rebase k code m m (bases.Local base) (prepend k field t) view.0 (own_prepend k code m field t some view.1 own)))
  own_asks_for (Call call) at view stmt t u own asks =
      own_becomes k code m m call.receiver (sleep at (with_fields (inside ∷ []) t)) u view.receiver
      (own_sleep k code m at (with_fields (inside ∷ []) t) stmt (omega arith) (own_inside k code m t some fields own)) asks.1
  own_asks_for (Copy to from) at view stmt t u own none = absurd none
  own_asks_for (Kill to) at view stmt t u own none = absurd none
  own_asks_for (Load to base field) at view stmt t u own none = absurd none
  own_asks_for (StaticStore field from) at view stmt t u own none = absurd none
  own_asks_for (Mix to left right) at view stmt t u own none = absurd none
  own_asks_for (Return value) at view stmt t u own none = absurd none
  own_asks_for (Throw value) at view stmt t u own none = absurd none
  own_asks_for Other at view stmt t u own none = absurd none

  pub own_triggers : (view : View) (at : StmtId) (f g : Fact) → OwnView code m view → IsStmt code at → OwnFact code k m f → Triggers k view at f g → OwnFact code k m g
  own_triggers view at f g owns stmt own triggers_ = own_on_taints k code (AsksFor k view at) m m (own_asks_for view at owns stmt) f g own triggers_

  -- Under a statement

  pub own_remains : (view : View) (t u : Taint) → OwnTaint code k m t → Remains view t u → OwnTaint code k m u
  own_remains view t u own remains = subst (OwnTaint code k m) (sym remains.2) own

  pub own_comes_from : (view : View) (t u : Taint) → OwnView code m view → OwnTaint code k m t → ComesFrom k view t u → OwnTaint code k m u
  own_comes_from (Copy to from) t u view own from_ = subst (OwnTaint code k m) (sym from_.1) (own_rebase k code m m from t view.1 own)
  own_comes_from (Load to base field) t u view own from_ =
      subst (OwnTaint code k m) (sym from_.1) (own_rebase k code m m (bases.Local base) (prepend k field t) view.1 (own_prepend k code m field t some view.2 own))
  own_comes_from (Store base field operand) t u view own from_ = own_becomes k code m m operand (strip t) u view.2 (own_strip k code m t (says_strip t from_.0.1) own) from_.1
  own_comes_from (StaticStore field operand) t u view own from_ = own_becomes k code m m operand t u view.1 own from_.1
  own_comes_from (Return value) t u view own from_ = own_becomes k code m m value t u view own from_.1
  own_comes_from (Throw value) t u view own from_ = own_becomes k code m m value t u view own from_.1
  own_comes_from (Kill to) t u view own none = absurd none
  own_comes_from (Mix to left right) t u view own none = absurd none
  own_comes_from (Call call) t u view own none = absurd none
  own_comes_from Other t u view own none = absurd none

  pub own_under : (view : View) (f g : Fact) → OwnView code m view → OwnFact code k m f → Under k view f g → OwnFact code k m g
  own_under view f g owns own under_ = own_on_taints k code (λ t u. ComesFrom k view t u ⊎ Remains view t u) m m
      (λ t u taint is. elim is [ inl from_ ↦ own_comes_from view t u owns taint from_ | inr remains ↦ own_remains view t u taint remains ]) f g own under_

  -- Crossing

  pub own_crosses : (s : StmtId) (f g : Fact) → OwnFact code k m f → Crosses code s f g → OwnFact code k m g
  own_crosses s Zero g own crosses = subst (OwnFact code k m) (sym crosses) tt
  own_crosses s (Tainted t) g own crosses = elim crosses [
    | inl wakes ↦ subst (OwnFact code k m) (sym wakes.1) (own_activate k code m t own)
    | inr stays ↦ subst (OwnFact code k m) (sym stays.1) own
  ]

  -- Leaks

  pub own_leaks : (view : View) (at : StmtId) (f : Fact) (l : Leak) → IsStmt code at → method_of code at ≡ m → OwnFact code k m f → Leaks view at f l → OwnLeak code l
  own_leaks (Call call) at (Tainted t) l stmt here own leaks = record {
    sink = subst (IsStmt code) (sym at_sink) stmt;
    source = subst (IsStmt code) (sym (ap (λ (n : Leak). n.source) leaks.4)) own.source;
    base = subst (λ (n : MethodId). IsLocalOf code n l.base) (sym (ap (λ (s : StmtId). method_of code s) at_sink ∙ here)) (subst (OwnBase code m) leaks.3 own.base);
    fields = λ f has. own.fields f (subst (λ (fs : List FieldId). Contains fs f) (ap (λ (n : Leak). n.fields) leaks.4) has);
  } where
    at_sink : l.sink ≡ at
    at_sink = ap (λ (n : Leak). n.sink) leaks.4
  own_leaks (Call call) at Zero l stmt here own none = absurd none
  own_leaks (Copy to from) at f l stmt here own none = absurd none
  own_leaks (Kill to) at f l stmt here own none = absurd none
  own_leaks (Load to base field) at f l stmt here own none = absurd none
  own_leaks (Store base field from) at f l stmt here own none = absurd none
  own_leaks (StaticStore field from) at f l stmt here own none = absurd none
  own_leaks (Mix to left right) at f l stmt here own none = absurd none
  own_leaks (Return value) at f l stmt here own none = absurd none
  own_leaks (Throw value) at f l stmt here own none = absurd none
  own_leaks Other at f l stmt here own none = absurd none
