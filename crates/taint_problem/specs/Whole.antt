-- That a program is whole, in words of which each has one proof, so that a problem can keep it.
use Rattle.std.specs.Prelude.{◌≡◌, ◌<◌, ◌≤◌, ◌^◌, Bool, true, false, List, [], ◌∷◌, length, slice_index_or, Contains}
use Rattle.std.proofs.Common.{arith, refl, sym, ◌∙◌, ap, subst}
use Rattle.std.proofs.lemmas.List.{get_or_default}
use Rattle.clean_base.specs.Lists.{At}
use Rattle.clean_base.specs.declared.ids.MethodId.{MethodId}
use Rattle.clean_base.specs.declared.ids.StmtId.{StmtId}
use Rattle.access_path.specs.declared.view.CallView.{CallView}
use Rattle.access_path.specs.declared.view.View.{View}
use Rattle.access_path.specs.declared.view.View.TheVariants as views
use Rattle.flow_rules.specs.Code.{Code, IsWhole, Stands, StandsIn, Follows, IsTarget, IsOpenCall}

-- the statement's view, and its method; any of them beyond the statements
abbrev pub view_at : Code → StmtId → View
view_at code s = slice_index_or code.views s.0 views.Other

abbrev pub owner_at : Code → StmtId → MethodId
owner_at code s = slice_index_or code.owners s.0 code.root

abbrev pub targets_at : Code → StmtId → List MethodId
targets_at code s = slice_index_or code.targets s.0 []

abbrev pub is_open : View → Bool
is_open (views.Call call) = call.is_open
is_open _ = false

pub record IsKept (code : Code) : Type 0 where
  pub root : code.root.0 < length code.firsts
  pub few_methods : length code.firsts < 2 ^ 32
  pub few_statements : length code.views ≤ 2 ^ 32
  pub owned : length code.owners ≡ length code.views
  pub owners : (m : MethodId) → Contains code.owners m → m.0 < length code.firsts
  pub starts : (m : MethodId) (s : StmtId) → At code.firsts m.0 s → StandsIn code s m
  pub from : (s q : StmtId) → Follows code s q → s.0 < length code.owners
  pub to : (s q : StmtId) → Follows code s q → q.0 < length code.owners
  pub inside : (s q : StmtId) → Follows code s q → owner_at code s ≡ owner_at code q
  pub placed : (s : StmtId) (call : CallView) → Stands code s (views.Call call) → call.stmt ≡ s
  pub called : (s : StmtId) (m : MethodId) → IsTarget code s m → s.0 < length code.views
  pub opens : (s : StmtId) (m : MethodId) → IsTarget code s m → is_open (view_at code s) ≡ true
  pub listed : (s : StmtId) (call : CallView) → IsOpenCall code s call → s.0 < length code.targets
  pub aims : (s : StmtId) (call : CallView) → IsOpenCall code s call → 0 < length (targets_at code s)
  pub sources : (s : StmtId) (call : CallView) → IsOpenCall code s call → call.source ≡ false
  pub sinks : (s : StmtId) (call : CallView) → IsOpenCall code s call → call.sink ≡ false
  pub targets : (s : StmtId) (m : MethodId) → IsTarget code s m → m.0 < length code.firsts
  pub args : (s : StmtId) (call : CallView) → IsOpenCall code s call → length call.args ≤ 255

module _ (code : Code) where
  owner_is : (s : StmtId) (m : MethodId) → StandsIn code s m → owner_at code s ≡ m
  owner_is s m at = get_or_default code.owners s.0 code.root m at.0 ∙ at.1

  view_is : (s : StmtId) (v : View) → Stands code s v → view_at code s ≡ v
  view_is s v at = get_or_default code.views s.0 views.Other v at.0 ∙ at.1

  -- the one from the other

  pub kept_of : IsWhole code → IsKept code
  kept_of whole = record {
    root = whole.root;
    few_methods = whole.few_methods;
    few_statements = whole.few_statements;
    owned = whole.owned;
    owners = whole.owners;
    starts = whole.starts;
    from = λ s q follows. (whole.inside s q follows).1.0;
    to = λ s q follows. (whole.inside s q follows).2.0;
    inside = λ s q follows. let same = whole.inside s q follows in owner_is s same.0 same.1 ∙ sym (owner_is q same.0 same.2);
    placed = whole.placed;
    called = λ s m target. (whole.opens s m target).1.0.0;
    opens = λ s m target. let call = whole.opens s m target in ap is_open (view_is s (views.Call call.0) call.1.0) ∙ call.1.1;
    listed = λ s call opens. (whole.aims s call opens).1.1.0;
    aims = λ s call opens.
        let target = (whole.aims s call opens).1 in
        let row : targets_at code s ≡ target.0 = get_or_default code.targets s.0 [] target.0 target.1.0 ∙ target.1.1 in
        rw row (omega (arith, target.2.1));
    sources = λ s call opens. (whole.plain s call opens).0;
    sinks = λ s call opens. (whole.plain s call opens).1;
    targets = whole.targets;
    args = whole.args;
  }

  open_of : (v : View) → is_open v ≡ true → (call : CallView) × (v ≡ views.Call call) × (call.is_open ≡ true)
  open_of (views.Call call) is = (call, refl, is)
  open_of (views.Copy to from) is = absurd (cc)
  open_of (views.Kill to) is = absurd (cc)
  open_of (views.Load to base field) is = absurd (cc)
  open_of (views.Store base field from) is = absurd (cc)
  open_of (views.StaticStore field from) is = absurd (cc)
  open_of (views.Mix to left right) is = absurd (cc)
  open_of (views.Return value) is = absurd (cc)
  open_of (views.Throw value) is = absurd (cc)
  open_of views.Other is = absurd (cc)

  first_of : (ms : List MethodId) → 0 < length ms → (m : MethodId) × Contains ms m
  first_of [] some = absurd (omega (arith, some))
  first_of (m ∷ ms) some = (m, (0, omega arith, refl))

  stands_at : (s : StmtId) (v : View) → s.0 < length code.views → view_at code s ≡ v → Stands code s v
  stands_at s v there is = (there, get_or_default code.views s.0 v views.Other there ∙ is)

  stands_in : (s : StmtId) → s.0 < length code.owners → StandsIn code s (owner_at code s)
  stands_in s there = (there, get_or_default code.owners s.0 (owner_at code s) code.root there)

  pub whole_of : IsKept code → IsWhole code
  whole_of kept = record {
    root = kept.root;
    few_methods = kept.few_methods;
    few_statements = kept.few_statements;
    owned = kept.owned;
    owners = kept.owners;
    starts = kept.starts;
    inside = λ s q follows. (
      owner_at code s,
      stands_in s (kept.from s q follows),
      subst (StandsIn code q) (sym (kept.inside s q follows)) (stands_in q (kept.to s q follows)),
    );
    placed = kept.placed;
    opens = λ s m target. let call = open_of (view_at code s) (kept.opens s m target) in (call.0, (stands_at s (views.Call call.0) (kept.called s m target) call.1, call.2));
    aims = λ s call opens.
        let first = first_of (targets_at code s) (kept.aims s call opens) in
        let there = kept.listed s call opens in
        (first.0, (targets_at code s, (there, get_or_default code.targets s.0 (targets_at code s) [] there), first.1));
    plain = λ s call opens. (kept.sources s call opens, kept.sinks s call opens);
    targets = kept.targets;
    args = kept.args;
  }
