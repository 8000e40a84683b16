-- What a table reads of its parts.
use Rattle.std.proofs.Common.{◌≡◌, ◌↔◌, ◌<◌, ◌≤◌, ◌⊎◌, inl, inr, ℕ, Bool, true, false, IsTrue, List, length, get_or, Some, None, refl, sym, ap, subst, ◌∙◌, arith, true≢false}
use Rattle.std.specs.Prelude.{Option, Contains, MatchOption, IfSome, IfNone}
use Rattle.std.specs.List.{HoldsAt}
use Rattle.std.specs.Borrow.{Bor}
use Rattle.clean_base.specs.Lists.{At}
use Rattle.clean_base.specs.declared.ids.ClassId.{ClassId}
use Rattle.jimple_tree.specs.declared.tree.Class.{Class}
use Rattle.reach_rows.specs.Graphs.{Steps}
use Rattle.reach_rows.specs.Reaches.{Reaches, here}
use Rattle.class_table.specs.Faults.{HaveNames}
use Rattle.class_table.specs.Hierarchy.{class_names, given, heading, IsSubtype}
use Rattle.class_table.specs.Links.{name_at, AreRows}
use Rattle.class_table.specs.Marks.{AreMarked}
use Rattle.class_table.proofs.Doubles.{own, own_known, own_number}
use Rattle.class_table.proofs.Linked.{map_has, name_is, at_name, one_number, reach_names, reach_numbers}
use Rattle.class_table.proofs.Named.{given_is, given_own}

-- a test of a limit that fails
pub too_many : (n most : ℕ) (b : Bool) → (n ≤ most → IsTrue b) → b ≡ false → most < n
too_many n most b holds fails = by (order most n) where
  order : (a b : ℕ) → (a < b) ⊎ (b ≤ a)
  order a b = grind arith

  by : (most < n) ⊎ (n ≤ most) → most < n
  by (inl more) = more
  by (inr few) = absurd (true≢false (sym (holds few) ∙ fails))

-- the class at the place of a number is given under its name
pub given_at : (cs : List Class) → HaveNames cs → (i : ℕ) (c : Class) → i < length cs → c ≡ get_or cs i c → given cs (name_at cs i) ≡ Some c
given_at cs names i c below is =
    let named : name_at cs i ≡ c.name = name_is cs i c.name (own_number cs names i c below is) in
    ap (given cs) named ∙ given_own cs names c (i, below, sym is)

-- under a name without a number none is
pub not_given : (cs : List Class) (name : List ℕ) → (Contains (class_names cs) name → ⊥) → given cs name ≡ None
not_given cs name unknown = by (given cs name) refl where
  by : (o : Option Class) → given cs name ≡ o → given cs name ≡ None
  by None none = none
  by (Some c) some =
      let is = given_is cs name c some in
      absurd (unknown (own_known cs name (subst (Contains (own cs)) is.1 (map_has (λ (d : Class). d.name) cs c is.0))))

-- and behind the classes none is
pub given_past : (cs : List Class) → HaveNames cs → (i : ℕ) → i < length (class_names cs) → length cs ≤ i → given cs (name_at cs i) ≡ None
given_past cs names i within past = by (given cs (name_at cs i)) refl where
  by : (o : Option Class) → given cs (name_at cs i) ≡ o → given cs (name_at cs i) ≡ None
  by None none = none
  by (Some c) some =
      let found = given_is cs (name_at cs i) c some in
      let k = found.0.0 in
      let below : k < length cs = found.0.1 in
      let number : At (class_names cs) k (name_at cs i) = subst (At (class_names cs) k) found.1 (own_number cs names k c below (sym found.0.2)) in
      let same : k ≡ i = one_number cs k i (name_at cs i) number (at_name cs i within) in
      absurd (omega (arith, below, same, past))

-- what a look-up of a class gives
module _ (cs : List Class) (names : HaveNames cs) (i : ℕ) where
  pub found_class : (r : Option (Bor Class)) → MatchOption r (length cs ≤ i) (λ x. (i < length cs) × HoldsAt (λ (y : Class). x.now ≡ y) cs i) → IfSome r (λ x. given cs (name_at cs i) ≡ Some x.now)
  found_class None h = tt
  found_class (Some x) (below, at) = given_at cs names i x.now below (at x.now)

  pub no_class : i < length (class_names cs) → (r : Option (Bor Class)) → MatchOption r (length cs ≤ i) (λ x. (i < length cs) × HoldsAt (λ (y : Class). x.now ≡ y) cs i) → IfNone r (given cs (name_at cs i) ≡ None)
  no_class within None past = given_past cs names i within past
  no_class within (Some x) h = tt

-- what marks on the graph of headings tell of classes
module _ (cs : List Class) (headings : List (List ℕ)) (are : AreRows cs heading headings) where
  subtype_reach : (a b : ClassId) → a.0 < length headings → IsSubtype cs a b → Reaches (Steps headings) a.0 b.0
  subtype_reach a b below (inl same) = subst (λ (k : ClassId). Reaches (Steps headings) a.0 k.0) same here
  subtype_reach a b below (inr (x, y, one, two, up)) =
      let found = reach_numbers cs headings are up a.0 one in
      subst (Reaches (Steps headings) a.0) (one_number cs found.0 b.0 y found.1 two) found.2

  reach_subtype : (a b : ClassId) → a.0 < length headings → b.0 < length headings → Reaches (Steps headings) a.0 b.0 → IsSubtype cs a b
  reach_subtype a b below inside way =
      let count = are.count in
      let one = at_name cs a.0 (omega (arith, below, count)) in
      let two = at_name cs b.0 (omega (arith, inside, count)) in
      inr (name_at cs a.0, name_at cs b.0, one, two, reach_names cs headings are way (name_at cs a.0) (name_at cs b.0) one two)

  subtype_within : (a b : ClassId) → b.0 < length headings → IsSubtype cs a b → a.0 < length headings
  subtype_within a b below (inl same) = subst (λ (k : ClassId). k.0 < length headings) (sym same) below
  subtype_within a b below (inr (x, y, one, two, up)) = let inside = one.0 in let count = are.count in omega (arith, inside, count)

  within_subtype : (a b : ClassId) → a.0 < length headings → IsSubtype cs a b → b.0 < length headings
  within_subtype a b below (inl same) = subst (λ (k : ClassId). k.0 < length headings) same below
  within_subtype a b below (inr (x, y, one, two, up)) = let inside = two.0 in let count = are.count in omega (arith, inside, count)

  pub marked_above : (a : ClassId) (marks : List Bool) → a.0 < length headings → AreMarked headings (λ b. Reaches (Steps headings) a.0 b) marks → (name : ClassId) → At marks name.0 true ↔ IsSubtype cs a name
  marked_above a marks below marked name = (
    (λ at. let inside = at.0 in let count = marked.count in let within : name.0 < length headings = omega (arith, inside, count) in reach_subtype a name below within ((marked.each name.0 within).0 at)),
    (λ up. (marked.each name.0 (within_subtype a name below up)).1 (subtype_reach a name below up)),
  )

  pub marked_below : (a : ClassId) (marks : List Bool) → a.0 < length headings → AreMarked headings (λ b. Reaches (Steps headings) b a.0) marks → (name : ClassId) → At marks name.0 true ↔ IsSubtype cs name a
  marked_below a marks below marked name = (
    (λ at. let inside = at.0 in let count = marked.count in let within : name.0 < length headings = omega (arith, inside, count) in reach_subtype name a within below ((marked.each name.0 within).0 at)),
    (λ up. let within = subtype_within name a below up in (marked.each name.0 within).1 (subtype_reach name a within up)),
  )
