-- Numbers of contexts, and what they stand for: in range each number is one context's.
use Rattle.std.specs.Prelude.{◌≡◌, ◌⊎◌, ◌<◌, ℕ, zero, suc, List, [], ◌∷◌, length, map, slice_index_or, Contains}
use Rattle.std.proofs.Common.{arith, sym, ◌∙◌, ap, subst, inl, inr, refl}
use Rattle.ifds_model.specs.declared.node.Context.{Context}
use Rattle.ifds_model.specs.declared.node.Frame.{Frame}
use Rattle.ifds_model.specs.declared.node.Node.{Node}
use Rattle.ifds_model.specs.Count.{cons_cases}
use Rattle.ifds_model.specs.State.{IsDistinct}
use Rattle.solver_core.specs.Numbers.{frame_of, context_at}
use Rattle.solver_core.specs.Store.{Spot, spot}

order : (i j : ℕ) → (i < j) ⊎ (i ≡ j) ⊎ (j < i)
order zero zero = inr (inl refl)
order zero (suc j) = inl (omega arith)
order (suc i) zero = inr (inr (omega arith))
order (suc i) (suc j) = elim (order i j) [
  | inl less ↦ inl (omega (arith, less))
  | inr other ↦ inr (elim other [ inl same ↦ inl (ap suc same) | inr more ↦ inr (omega (arith, more)) ])
]

-- without repeats each item has one place
pub one_place : {X : Type 0} (xs : List X) → IsDistinct xs → (d : X) (i j : ℕ) → i < length xs → j < length xs → slice_index_or xs i d ≡ slice_index_or xs j d → i ≡ j
one_place xs distinct d i j below within same = elim (order i j) [
  | inl less ↦ absurd (distinct i j d less within same)
  | inr other ↦ elim other [ inl is ↦ is | inr more ↦ absurd (distinct j i d more below (sym same)) ]
]

module _ {X Y : Type 0} (f : X → Y) where
  pub in_map : (xs : List X) (x : X) → Contains xs x → Contains (map f xs) (f x)
  in_map [] x has = absurd (omega (arith, has.1))
  in_map (y ∷ ys) x has = elim (cons_cases y ys x has) [
    | inl same ↦ (0, omega arith, ap f same)
    | inr later ↦ let rest = in_map ys x later in (suc rest.0, omega (arith, rest.1), rest.2)
  ]

  pub from_map : (xs : List X) (y : Y) → Contains (map f xs) y → (x : X) × Contains xs x × (y ≡ f x)
  from_map [] y has = absurd (omega (arith, has.1))
  from_map (x ∷ xs) y has = elim (cons_cases (f x) (map f xs) y has) [
    | inl same ↦ (x, (0, omega arith, refl), sym same)
    | inr later ↦ let rest = from_map xs y later in (rest.0, (suc rest.1.0, omega (arith, rest.1.1), rest.1.2), rest.2)
  ]

module _ {F : Type 0} (root : Context F) (cs : List (Context F)) (distinct : IsDistinct cs) where
  -- edges in range that stand for one frame are one
  pub one_spot : (s t : Spot F) → s.context < length cs → t.context < length cs → frame_of root cs s ≡ frame_of root cs t → s ≡ t
  one_spot s t below within same =
      let contexts : context_at root cs s.context ≡ context_at root cs t.context = ap (λ (a : Frame F). a.context) same in
      let nodes : s.node ≡ t.node = ap (λ (a : Frame F). a.node) same in
      let facts : s.fact ≡ t.fact = ap (λ (a : Frame F). a.fact) same in
      let numbers : s.context ≡ t.context = one_place cs distinct root s.context t.context below within contexts in
      ap (λ (n : ℕ). spot n s.node s.fact) numbers ∙ ap (λ (n : Node). spot t.context n s.fact) nodes ∙ ap (λ (f : F). spot t.context t.node f) facts

  -- an edge that isn't there stands for no frame that is
  pub fresh_frame : (edges : List (Spot F)) (s : Spot F) → ((t : Spot F) → Contains edges t → t.context < length cs) → s.context < length cs → (Contains edges s → ⊥) → Contains (map (frame_of root cs) edges) (frame_of root cs s) → ⊥
  fresh_frame edges s range below fresh has =
      let from = from_map (frame_of root cs) edges (frame_of root cs s) has in
      fresh (subst (λ (t : Spot F). Contains edges t) (sym (one_spot s from.0 below (range from.0 from.1) from.2)) from.1)
