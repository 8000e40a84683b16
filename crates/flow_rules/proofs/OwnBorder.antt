-- The rules at the border of a method keep to the program's own names: what they give of a fact that names only those
-- names only those. What is handed over begins at no local of the caller, and what leaves at none of the method.
use Rattle.std.proofs.Common.{◌≡◌, ◌⊎◌, ℕ, Option, inl, inr, sym, subst, refl}
use Rattle.clean_base.specs.declared.ids.LocalId.{LocalId}
use Rattle.clean_base.specs.declared.ids.MethodId.{MethodId}
use Rattle.clean_base.specs.declared.ids.StmtId.{StmtId}
use Rattle.ifds_model.specs.declared.node.Dir.{Dir}
use Rattle.ifds_model.specs.declared.node.Dir.TheVariants.{Forward, Backward}
use Rattle.access_path.specs.Paths.{HasField, rebase, sleep}
use Rattle.access_path.specs.declared.fact.Base.{Base}
use Rattle.access_path.specs.declared.fact.Base.TheVariants as bases
use Rattle.access_path.specs.declared.fact.Fact.{Fact}
use Rattle.access_path.specs.declared.fact.Taint.{Taint}
use Rattle.access_path.specs.declared.view.CallView.{CallView}
use Rattle.access_path.specs.declared.view.View.TheVariants.{Call}
use Rattle.flow_rules.specs.Border.{ComesAhead, ComesOut, Enters, Exits, IsInside, IsInsideAtEnd, IsOutside, IsShared, Passes, Renamed, ReturnsAhead, ReturnsBehind, Throws}
use Rattle.flow_rules.specs.Code.{Code}
use Rattle.flow_rules.specs.Forward.{Stays}
use Rattle.flow_rules.specs.Locals.{Holds}
use Rattle.flow_rules.specs.Own.{OwnBase, OwnCall, OwnFact, OwnTaint, IsLocalOf, IsStmt}
use Rattle.flow_rules.proofs.OwnPaths.{own_rebase, own_elsewhere, own_becomes, own_sleep, own_on_taints, own_with_zero}

module _ (k : ℕ) (code : Code) where
  -- Into a method

  own_is_inside : (call : CallView) (m n : MethodId) (b c : Base) → OwnBase code m b → IsInside call b c → OwnBase code n c
  own_is_inside call m n (bases.Local x) c own is = elim is [
    | inl receiver ↦ subst (OwnBase code n) (sym receiver.1) tt
    | inr param ↦ subst (OwnBase code n) (sym param.2) tt
  ]
  own_is_inside call m n (bases.Static f) c own is = subst (OwnBase code n) (sym is) own
  own_is_inside call m n bases.This c own none = absurd none
  own_is_inside call m n (bases.Param i) c own none = absurd none
  own_is_inside call m n bases.Return c own none = absurd none
  own_is_inside call m n bases.Thrown c own none = absurd none

  own_is_inside_at_end : (call : CallView) (n : MethodId) (b c : Base) → IsInsideAtEnd call b c → OwnBase code n c
  own_is_inside_at_end call n (bases.Local x) c is = subst (OwnBase code n) (sym is.1) tt
  own_is_inside_at_end call n bases.Thrown c is = subst (OwnBase code n) (sym is) tt
  own_is_inside_at_end call n bases.This c none = absurd none
  own_is_inside_at_end call n (bases.Param i) c none = absurd none
  own_is_inside_at_end call n bases.Return c none = absurd none
  own_is_inside_at_end call n (bases.Static f) c none = absurd none

  own_inside_name : (call : CallView) (m n : MethodId) (t u : Taint) → OwnTaint code k m t → Renamed (IsInside call) t u → OwnTaint code k n u
  own_inside_name call m n t u own is = subst (OwnTaint code k n) (sym is.2) (own_rebase k code m n is.0 t (own_is_inside call m n t.base is.0 own.base is.1) own)

  own_end_name : (call : CallView) (m n : MethodId) (t u : Taint) → OwnTaint code k m t → Renamed (IsInsideAtEnd call) t u → OwnTaint code k n u
  own_end_name call m n t u own is = subst (OwnTaint code k n) (sym is.2) (own_rebase k code m n is.0 t (own_is_inside_at_end call n t.base is.0 is.1) own)

  -- from the caller, to the method that is called
  pub own_enters : (call : CallView) (dir : Dir) (m n : MethodId) (f g : Fact) → OwnFact code k m f → Enters call dir f g → OwnFact code k n g
  own_enters call Forward m n f g own enters = own_with_zero k code (Renamed (IsInside call)) m n (own_inside_name call m n) f g own enters
  own_enters call Backward m n f g own enters = own_on_taints k code (λ t u. HasField t × (Renamed (IsInside call) t u ⊎ Renamed (IsInsideAtEnd call) t u)) m n
      (λ t u taint is. elim (is.1) [ inl inside ↦ own_inside_name call m n t u taint inside | inr end ↦ own_end_name call m n t u taint end ]) f g own enters

  -- Past a call

  pub own_passes : (call : CallView) (m : MethodId) (f g : Fact) → OwnFact code k m f → Passes call f g → OwnFact code k m g
  own_passes call m f g own passes = own_with_zero k code (Stays (Call call)) m m (λ t u taint stays. subst (OwnTaint code k m) (sym stays.2) taint) f g own passes

  -- Out of a method

  own_is_shared : (m n : MethodId) (b : Base) (t : Taint) → IsShared b t → OwnBase code m b → OwnBase code n b
  own_is_shared m n bases.This t shared own = tt
  own_is_shared m n (bases.Param i) t shared own = tt
  own_is_shared m n (bases.Static f) t shared own = own
  own_is_shared m n (bases.Local x) t none own = absurd none
  own_is_shared m n bases.Return t none own = absurd none
  own_is_shared m n bases.Thrown t none own = absurd none

  -- from the method that ends, to whatever method called it
  pub own_exits : (value : Option LocalId) (m n : MethodId) (f g : Fact) → OwnFact code k m f → Exits value f g → OwnFact code k n g
  own_exits value m n f g own exits = own_with_zero k code (λ t u. (Holds value t × (u ≡ rebase bases.Return t)) ⊎ (IsShared t.base t × (u ≡ t))) m n
      (λ t u taint is. elim is [
        | inl result ↦ subst (OwnTaint code k n) (sym result.1) (own_rebase k code m n bases.Return t tt taint)
        | inr shared ↦ subst (OwnTaint code k n) (sym shared.1) (own_elsewhere k code m n t (own_is_shared m n t.base t shared.0 taint.base) taint)
      ]) f g own exits

  pub own_throws : (value : Option LocalId) (m n : MethodId) (f g : Fact) → OwnFact code k m f → Throws value f g → OwnFact code k n g
  own_throws value m n f g own throws = own_on_taints k code (λ t u. Holds value t × (u ≡ rebase bases.Thrown t)) m n
      (λ t u taint is. subst (OwnTaint code k n) (sym is.1) (own_rebase k code m n bases.Thrown t tt taint)) f g own throws

  -- Back in the caller

  own_outside : (call : CallView) (m : MethodId) (b : Base) (x : LocalId) → OwnCall code m call → IsOutside call b x → IsLocalOf code m x
  own_outside call m bases.This x owns is = owns.receiver x is
  own_outside call m (bases.Param i) x owns is = owns.args x (i, is.0, is.1)
  own_outside call m (bases.Local y) x owns none = absurd none
  own_outside call m bases.Return x owns none = absurd none
  own_outside call m (bases.Static f) x owns none = absurd none
  own_outside call m bases.Thrown x owns none = absurd none

  own_comes_out : (call : CallView) (m n : MethodId) (t u : Taint) → OwnCall code m call → OwnTaint code k n t → ComesOut call t u → OwnTaint code k m u
  own_comes_out call m n t u owns own out = subst (OwnTaint code k m) (sym out.1.2) (own_rebase k code n m (bases.Local out.1.0) t (own_outside call m t.base out.1.0 owns out.1.1) own)

  own_comes_ahead : (call : CallView) (m n : MethodId) (b : Base) (t u : Taint) → OwnCall code m call → t.base ≡ b → OwnTaint code k n t → ComesAhead call b t u → OwnTaint code k m u
  own_comes_ahead call m n (bases.Static f) t u owns of own same =
      subst (OwnTaint code k m) (sym same) (own_elsewhere k code n m t (subst (OwnBase code m) (sym of) (subst (OwnBase code n) of own.base)) own)
  own_comes_ahead call m n bases.Return t u owns of own becomes_ = own_becomes k code n m call.result t u owns.result own becomes_
  own_comes_ahead call m n bases.This t u owns of own out = own_comes_out call m n t u owns own out.0
  own_comes_ahead call m n (bases.Param i) t u owns of own out = own_comes_out call m n t u owns own out.0
  own_comes_ahead call m n (bases.Local x) t u owns of own none = absurd none
  own_comes_ahead call m n bases.Thrown t u owns of own none = absurd none

  -- from the method that ended, to its caller
  pub own_returns_ahead : (call : CallView) (m n : MethodId) (f g : Fact) → OwnCall code m call → OwnFact code k n f → ReturnsAhead call f g → OwnFact code k m g
  own_returns_ahead call m n f g owns own ahead = own_with_zero k code (λ t u. ComesAhead call t.base t u) n m
      (λ t u taint is. own_comes_ahead call m n t.base t u owns refl taint is) f g own ahead

  pub own_returns_behind : (call : CallView) (at : StmtId) (m n : MethodId) (f g : Fact) → OwnCall code m call → IsStmt code at → OwnFact code k n f → ReturnsBehind call at f g → OwnFact code k m g
  own_returns_behind call at m n f g owns stmt own behind = own_on_taints k code (λ t u. (v : Taint) × ComesOut call t v × (u ≡ sleep at v)) n m
      (λ t u taint is. subst (OwnTaint code k m) (sym is.2) (own_sleep k code m at is.0 stmt (subst (λ (v : Taint). HasField v) (sym is.1.1.2) is.1.0) (own_comes_out call m n t is.0 owns taint is.1))) f g own behind
