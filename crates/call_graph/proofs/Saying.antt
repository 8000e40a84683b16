-- What the lists say of a signature in a class and in those above it.
use Rattle.std.proofs.Common.{◌≡◌, ◌⊎◌, ◌↔◌, ◌<◌, ◌≤◌, ◌+◌, ℕ, zero, suc, Bool, true, false, true≢false, List, [], ◌∷◌, length, get_or, flat_map, Contains, IsTrue, Option, Some, None, refl, sym, ap, subst, ◌∙◌, inl, inr, arith}
use Rattle.std.proofs.lemmas.List.{get_or_default}
use Rattle.std.proofs.lemmas.List.Elements.{Contains-append_left, Contains-append_right}
use Rattle.clean_base.specs.Lists.{At}
use Rattle.clean_base.specs.declared.ids.ClassId.{ClassId}
use Rattle.jimple_tree.specs.declared.tree.Class.{Class}
use Rattle.jimple_tree.specs.declared.tree.Sig.{Sig}
use Rattle.reach_rows.specs.Reaches.{here, on}
use Rattle.source_sink.specs.Lists.{Says}
use Rattle.source_sink.specs.declared.line.Line.{Line}
use Rattle.class_table.specs.Hierarchy.{class_names, given, names_of, names_in, heading, IsSubtype, Subtype}
use Rattle.class_table.specs.Links.{name_at}
use Rattle.reach_rows.proofs.Places.{same_number_or_not}
use Rattle.class_table.proofs.Doubles.{heading_known, name_of, own, own_known}
use Rattle.class_table.proofs.Linked.{map_has, name_is}
use Rattle.class_table.proofs.Named.{given_is}
use Rattle.call_graph.specs.ByNumber.{SaysIn}
use Rattle.call_graph.specs.Calls.{IsKind}

-- an item of a list of lists
flat_has : {X Y : Type 0} (f : X → List Y) (xs : List X) (x : X) (y : Y) → Contains xs x → Contains (f x) y → Contains (flat_map f xs) y
flat_has f [] x y has inside = absurd (let below = has.1 in omega (arith, below))
flat_has f (z ∷ zs) x y (zero, below, is) inside = Contains-append_left (f z) (flat_map f zs) y (subst (λ (w : _). Contains (f w) y) (sym is) inside)
flat_has f (z ∷ zs) x y (suc k, below, is) inside = Contains-append_right (f z) (flat_map f zs) y (flat_has f zs x y (k, (omega (arith, below)), is) inside)

-- what the lists say of the signature in the marked ones of the first so many classes
abbrev pub SaysTo : List Class → List Line → List Bool → ℕ → Sig → (Line → Bool) → Type 0
SaysTo cs lines marks passed sig does = (i : ℕ) × (i < passed) × At marks i true × Says lines (record sig { class = name_at cs i }) does

pub last_or_before : (k i : ℕ) → k < i + 1 → (k < i) ⊎ (k ≡ i)
last_or_before k i below = elim (same_number_or_not k i) [ inl same ↦ inr same | inr other ↦ inl (omega (arith, below, other)) ]

-- a mark that was read
pub marked_there : (marks : List Bool) (i : ℕ) (d : Bool) → i < length marks → get_or marks i d ≡ true → At marks i true
marked_there marks i d below is = (below, get_or_default marks i true d below ∙ is)

pub unmarked_there : (marks : List Bool) (i : ℕ) (d : Bool) → get_or marks i d ≡ false → At marks i true → ⊥
unmarked_there marks i d is at = true≢false (sym at.1 ∙ get_or_default marks i true d at.0 ∙ is)

module _ (cs : List Class) where
  -- what stands above a name with a number has one
  pub known_up : {a b : List ℕ} → Subtype cs a b → Contains (class_names cs) a → Contains (class_names cs) b
  known_up here known = known
  known_up {a} (on {b = b} step rest) known = known_up rest (heading_known cs b (by (given cs a) refl step)) where
    by : (o : Option Class) → given cs a ≡ o → Contains (names_of heading o) b → Contains (flat_map heading cs) b
    by None is has = absurd (let below = has.1 in omega (arith, below))
    by (Some d) is has = flat_has heading cs d b (given_is cs a d is).0 has

  -- the class of a name that is given has a number
  pub given_known : (name : List ℕ) (c : Class) → given cs name ≡ Some c → Contains (class_names cs) name
  given_known name c is = let h = given_is cs name c is in own_known cs name (subst (Contains (own cs)) h.1 (map_has name_of cs c h.0))

  -- a name without a number has no names of any kind
  pub unknown_none : (kind : Class → List (List ℕ)) (name : List ℕ) → (Contains (class_names cs) name → ⊥) → names_in kind cs name ≡ []
  unknown_none kind name unknown = by (given cs name) refl where
    by : (o : Option Class) → given cs name ≡ o → names_of kind o ≡ []
    by None is = refl
    by (Some c) is = absurd (unknown (given_known name c is))

  -- nothing else stands above such a name
  pub unknown_alone : (name other : List ℕ) → (Contains (class_names cs) name → ⊥) → Subtype cs name other → name ≡ other
  unknown_alone name other unknown here = refl
  unknown_alone name other unknown (on {b = by} step rest) = let below = (subst (λ (ns : List (List ℕ)). Contains ns by) (unknown_none heading name unknown) step).1 in absurd (omega (arith, below))

  module _ (lines : List Line) (sig : Sig) (does : Line → Bool) where
    -- one class more
    pub class_more : (first before also now : Bool) (marks : List Bool) (i : ℕ) (class : List ℕ) → At marks i true → class ≡ name_at cs i
        → IsTrue before ↔ (IsTrue first ⊎ SaysTo cs lines marks i sig does)
        → IsTrue also ↔ Says lines (record sig { class = class }) does
        → IsTrue now ↔ (IsTrue before ⊎ IsTrue also)
        → IsTrue now ↔ (IsTrue first ⊎ SaysTo cs lines marks (i + 1) sig does)
    class_more first before also now marks i class marked is so_far says either = (there, back) where
      there : IsTrue now → IsTrue first ⊎ SaysTo cs lines marks (i + 1) sig does
      there t = elim (either.0 t) [
        | inl early ↦ elim (so_far.0 early) [
          | inl one ↦ inl one
          | inr some ↦ inr (some.0, (let below = some.1 in omega (arith, below)), some.2, some.3)
        ]
        | inr late ↦ inr (i, (omega arith), marked, subst (λ (c : List ℕ). Says lines (record sig { class = c }) does) is (says.0 late))
      ]

      back : IsTrue first ⊎ SaysTo cs lines marks (i + 1) sig does → IsTrue now
      back (inl one) = either.1 (inl (so_far.1 (inl one)))
      back (inr some) = elim (last_or_before some.0 i some.1) [
        | inl early ↦ either.1 (inl (so_far.1 (inr (some.0, early, some.2, some.3))))
        | inr same ↦ either.1 (inr (says.1 (subst (λ (c : List ℕ). Says lines (record sig { class = c }) does) (ap (name_at cs) same ∙ sym is) some.3)))
      ]

    -- or none more
    pub class_past : (first before now : Bool) (marks : List Bool) (i : ℕ) → (At marks i true → ⊥) → now ≡ before → IsTrue before ↔ (IsTrue first ⊎ SaysTo cs lines marks i sig does) → IsTrue now ↔ (IsTrue first ⊎ SaysTo cs lines marks (i + 1) sig does)
    class_past first before now marks i unmarked same so_far = subst (λ (b : Bool). IsTrue b ↔ (IsTrue first ⊎ SaysTo cs lines marks (i + 1) sig does)) (sym same) (there, back) where
      there : IsTrue before → IsTrue first ⊎ SaysTo cs lines marks (i + 1) sig does
      there t = elim (so_far.0 t) [ inl one ↦ inl one | inr some ↦ inr (some.0, (let below = some.1 in omega (arith, below)), some.2, some.3) ]

      back : IsTrue first ⊎ SaysTo cs lines marks (i + 1) sig does → IsTrue before
      back (inl one) = so_far.1 (inl one)
      back (inr some) = elim (last_or_before some.0 i some.1) [
        | inl early ↦ so_far.1 (inr (some.0, early, some.2, some.3))
        | inr same ↦ absurd (unmarked (subst (λ (k : ℕ). At marks k true) same some.2))
      ]

    pub classes_all : (first now : Bool) (marks : List Bool) (i : ℕ) → length marks ≤ i
        → IsTrue now ↔ (IsTrue first ⊎ SaysTo cs lines marks i sig does) → IsTrue now ↔ (IsTrue first ⊎ SaysIn cs lines marks sig does)
    classes_all first now marks i past so_far = (there, back) where
      there : IsTrue now → IsTrue first ⊎ SaysIn cs lines marks sig does
      there t = elim (so_far.0 t) [ inl one ↦ inl one | inr some ↦ inr (some.0, some.2, some.3) ]

      back : IsTrue first ⊎ SaysIn cs lines marks sig does → IsTrue now
      back (inl one) = so_far.1 (inl one)
      back (inr some) = so_far.1 (inr (some.0, (let at = some.1 in let below = at.0 in omega (arith, below, past)), some.1, some.2))

    -- the kind of a signature whose class has a number
    pub known_kind : (class : ClassId) (own now : Bool) (marks : List Bool) → At (class_names cs) class.0 sig.class → ((name : ClassId) → At marks name.0 true ↔ IsSubtype cs class name)
        → IsTrue own ↔ Says lines sig does → IsTrue now ↔ (IsTrue own ⊎ SaysIn cs lines marks sig does) → IsTrue now ↔ IsKind cs lines sig does
    known_kind class own now marks at exact says all = (there, back) where
      named : name_at cs class.0 ≡ sig.class
      named = name_is cs class.0 sig.class at

      up : (other : ClassId) → IsSubtype cs class other → Subtype cs sig.class (name_at cs other.0)
      up other (inl same) = subst (Subtype cs sig.class) (sym named ∙ ap (λ (c : ClassId). name_at cs c.0) same) here
      up other (inr (x, y, one, two, way)) = subst (λ (n : List ℕ). Subtype cs n (name_at cs other.0)) (sym (name_is cs class.0 x one) ∙ named) (subst (Subtype cs x) (sym (name_is cs other.0 y two)) way)

      there : IsTrue now → IsKind cs lines sig does
      there t = elim (all.0 t) [
        | inl one ↦ (sig.class, here, says.0 one)
        | inr some ↦ (let other : ClassId = record { 0 = some.0 } in (name_at cs some.0, up other ((exact other).0 some.1), some.2))
      ]

      back : IsKind cs lines sig does → IsTrue now
      back (name, way, said) = by (known_up way (class.0, at.0, at.1)) where
        by : Contains (class_names cs) name → IsTrue now
        by (k, below, is) =
            let other : ClassId = record { 0 = k } in
            all.1 (inr (k, (exact other).1 (inr (sig.class, name, at, (below, is), way)), subst (λ (n : List ℕ). Says lines (record sig { class = n }) does) (sym (name_is cs k name (below, is))) said))

    -- and of one whose class has none
    pub unknown_kind : (own : Bool) → (Contains (class_names cs) sig.class → ⊥) → IsTrue own ↔ Says lines sig does → IsTrue own ↔ IsKind cs lines sig does
    unknown_kind own unknown says = (
      λ t. (sig.class, here, says.0 t),
      λ h. says.1 (subst (λ (n : List ℕ). Says lines (record sig { class = n }) does) (sym (unknown_alone sig.class h.0 unknown h.1)) h.2),
    )

-- a name that isn't found has no number
pub not_found : (cs : List Class) (name : List ℕ) (found : Option ClassId) → found ≡ None → ((c : ClassId) → (found ≡ Some c) ↔ At (class_names cs) c.0 name) → Contains (class_names cs) name → ⊥
not_found cs name found none exact (k, below, is) =
    let c : ClassId = record { 0 = k } in
    let clash : None ≡ Some c = sym none ∙ (exact c).1 (below, is) in
    cc
