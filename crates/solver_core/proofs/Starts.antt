-- The starts of a context, taken in one after another.
use Rattle.std.specs.Prelude.{◌≡◌, ◌<◌, ◌≤◌, ℕ, ◌+◌, List, [], ◌∷◌, ◌++◌, length, take, Contains}
use Rattle.std.proofs.Common.{arith, sym, ◌∙◌, ap, subst, inl, inr, get_or, take_all}
use Rattle.std.proofs.lemmas.List.{take_more}
use Rattle.std.proofs.lemmas.List.Elements.{Contains-push, Contains-append_left, Contains-push_cases}
use Rattle.ifds_model.specs.declared.node.Context.{Context}
use Rattle.ifds_model.specs.declared.node.Node.{Node}
use Rattle.ifds_model.specs.declared.node.Move.{Move}
use Rattle.ifds_model.specs.declared.node.Move.TheVariants.{Go}
use Rattle.ifds_model.specs.Machine.{Machine}
use Rattle.ifds_model.specs.State.{View}
use Rattle.ifds_model.specs.Events.{TakesIn}
use Rattle.ifds_model.proofs.Composed.{takes_both, takes_none}
use Rattle.ifds_model.proofs.Members.{any_default}
use Rattle.solver_core.specs.Seen.{GoesTo}

module _ {F M : Type 0} (P : Machine F M) (e : Context F) (fact : F) (nodes : List Node) where
  first_none : (m : Move F M) → GoesTo (take 0 nodes) fact m → ⊥
  first_none m goes = none nodes goes.0 goes.1
    where
      none : (xs : List Node) (n : Node) → Contains (take 0 xs) n → ⊥
      none [] n has = omega (arith, has.1)
      none (x ∷ xs) n has = omega (arith, has.1)

  pub begin : (s : View F M) → TakesIn P e (GoesTo (take 0 nodes) fact) s s
  begin s = takes_none P e (GoesTo (take 0 nodes) fact) s first_none

  pub one_more : (i : ℕ) (n : Node) (old mid new : View F M) → i < length nodes → n ≡ get_or nodes i n → TakesIn P e (GoesTo (take i nodes) fact) old mid → TakesIn P e (λ m. m ≡ Go n fact) mid new → TakesIn P e (GoesTo (take (i + 1) nodes) fact) old new
  one_more i n old mid new below is first then =
      let more : take (i + 1) nodes ≡ take i nodes ++ n ∷ [] = take_more nodes i n below ∙ ap (λ (z : Node). take i nodes ++ z ∷ []) (sym is) in
      subst (λ (zs : List Node). TakesIn P e (GoesTo zs fact) old new) (sym more)
      (takes_both P e (GoesTo (take i nodes) fact) (λ m. m ≡ Go n fact) (GoesTo (take i nodes ++ n ∷ []) fact) old mid new
      (λ m goes. elim (Contains-push_cases (take i nodes) n goes.0 goes.1) [
        | inl there ↦ inl (goes.0, there, goes.2)
        | inr last ↦ inr (goes.2 ∙ ap (λ (z : Node). let v : Move F M = Go z fact in v) (sym last))
      ])
      (λ m goes. (goes.0, Contains-append_left (take i nodes) (n ∷ []) goes.0 goes.1, goes.2))
      (λ m same. (n, Contains-push (take i nodes) n, same))
      first then)

  pub one_more_at : (i : ℕ) (d : Node) (old mid new : View F M) → i < length nodes → TakesIn P e (GoesTo (take i nodes) fact) old mid → TakesIn P e (λ m. m ≡ Go (get_or nodes i d) fact) mid new → TakesIn P e (GoesTo (take (i + 1) nodes) fact) old new
  one_more_at i d old mid new below first then = one_more i (get_or nodes i d) old mid new below (any_default nodes i d (get_or nodes i d) below) first then

  -- in a context that is only equal to this one
  pub one_more_as : (i : ℕ) (d : Node) (old mid new : View F M) (here : Context F) → here ≡ e → i < length nodes → TakesIn P e (GoesTo (take i nodes) fact) old mid → TakesIn P here (λ m. m ≡ Go (get_or nodes i d) fact) mid new → TakesIn P e (GoesTo (take (i + 1) nodes) fact) old new
  one_more_as i d old mid new here same below first then = one_more_at i d old mid new below first (subst (λ (c : Context F). TakesIn P c (λ m. m ≡ Go (get_or nodes i d) fact) mid new) same then)

  pub all_of : (i : ℕ) (old new : View F M) → length nodes ≤ i → TakesIn P e (GoesTo (take i nodes) fact) old new → TakesIn P e (GoesTo nodes fact) old new
  all_of i old new end t = subst (λ (zs : List Node). TakesIn P e (GoesTo zs fact) old new) (take_all i nodes end) t
