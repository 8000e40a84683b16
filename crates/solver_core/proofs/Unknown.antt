-- A call of an unknown context, by numbers.
use Rattle.std.specs.Prelude.{◌≡◌, ◌⊎◌, ◌↔◌, ◌<◌, ℕ, List, [], ◌∷◌, ◌++◌, true, length, map, Contains}
use Rattle.std.proofs.Common.{subst, inl, inr}
use Rattle.std.proofs.lemmas.List.{get_or_append_left}
use Rattle.std.proofs.Math.Seq.{get_or-append_seam}
use Rattle.clean_base.specs.declared.ids.StmtId.{StmtId}
use Rattle.ifds_model.specs.declared.node.Context.{Context}
use Rattle.ifds_model.specs.declared.node.Node.{Node}
use Rattle.ifds_model.specs.declared.node.Move.TheVariants.{Call}
use Rattle.ifds_model.specs.Machine.{Machine}
use Rattle.ifds_model.specs.State.{View, Known, IsKnown}
use Rattle.ifds_model.specs.Events.{TakesIn}
use Rattle.ifds_model.proofs.Composed.{takes_both, takes_none}
use Rattle.solver_core.specs.Numbers.{context_at, live_of}
use Rattle.solver_core.specs.Seen.{GoesTo}
use Rattle.solver_core.proofs.Answered.{live_member}
use Rattle.solver_core.proofs.Opening.{StartsOf, takes_unknown}

-- the new number is the new context's, and the others' contexts stay
pub context_new : {F : Type 0} (root : Context F) (cs : List (Context F)) (d : Context F) → context_at root (cs ++ d ∷ []) (length cs) ≡ d
context_new root cs d = get_or-append_seam cs d [] root

pub context_kept : {F : Type 0} (root : Context F) (cs : List (Context F)) (d : Context F) (n : ℕ) → n < length cs → context_at root (cs ++ d ∷ []) n ≡ context_at root cs n
context_kept root cs d n below = get_or_append_left cs (d ∷ []) root n below

module _ {F M : Type 0} (P : Machine F M) (e d : Context F) (at : StmtId) (starts : List Node) (all : (n : Node) → Contains starts n ↔ P.start d n) (s opened mid new : View F M) (unknown : IsKnown s d → ⊥)
    (opens : opened ≡ record s { known = s.known ++ live_of d ∷ [] }) (d_here : Context F) (is_d : d_here ≡ d) (e_here : Context F) (is_e : e_here ≡ e) (d_called : Context F) (called_d : d_called ≡ d) where
  starts_same : TakesIn P d (GoesTo starts d.fact) opened mid → TakesIn P d (StartsOf P d) opened mid
  starts_same t = takes_both P d (GoesTo starts d.fact) (λ m. ⊥) (StartsOf P d) opened mid mid
      (λ m start. inl (start.0, (all start.0).1 start.1, start.2))
      (λ m goes. (goes.0, (all goes.0).0 goes.1, goes.2))
      (λ m none. absurd none)
      t (takes_none P d (λ m. ⊥) mid (λ m none. none))

  pub unknown_taken : TakesIn P d_here (GoesTo starts d.fact) opened mid → TakesIn P e_here (λ m. m ≡ Call at d_called) mid new → TakesIn P e (λ m. m ≡ Call at d) s new
  unknown_taken a b = takes_unknown P e d at s mid new unknown
      (subst (λ (v : View F M). TakesIn P d (StartsOf P d) v mid) opens (starts_same (subst (λ (c : Context F). TakesIn P c (GoesTo starts d.fact) opened mid) is_d a)))
      (subst (λ (c : Context F). TakesIn P e (λ m. m ≡ Call at c) mid new) called_d (subst (λ (c : Context F). TakesIn P c (λ m. m ≡ Call at d_called) mid new) is_e b))

-- a context that has no number isn't known
pub not_known : {F : Type 0} (cs : List (Context F)) (d : Context F) → (Contains cs d → ⊥) → Contains (map live_of cs) (live_of d) ⊎ Contains (map live_of cs) (let k : Known F = record { context = d; retired = true } in k) → ⊥
not_known cs d fresh (inl live) = fresh (live_member cs (live_of d) live).1
not_known cs d fresh (inr retired) = let other = (live_member cs (let k : Known _ = record { context = d; retired = true } in k) retired).0 in cc (other)
