-- Names of classes among their numbered names.
use Rattle.std.proofs.Common.{◌≡◌, ◌≢◌, ◌<◌, ◌+◌, ℕ, Bool, true, false, nat_eq, List, [], ◌∷◌, ◌++◌, length, get_or, map, flat_map, take, drop, refl, sym, ap, subst, ◌∙◌, arith, append_assoc}
use Rattle.std.specs.Prelude.{Contains}
use Rattle.std.proofs.lemmas.List.{get_or-map, length-map, length-take-le, map-append, take-append-drop, take_more, drop_more, length-append, get_or_append_left}
use Rattle.std.proofs.lemmas.List.Elements.{Contains-get_or, Contains-append_left, Contains-append_right}
use Rattle.std.proofs.lemmas.List.Quantifiers.{all_pairs_push}
use Rattle.std.specs.List.{list_any}
use lib.Pointwise.{pointwise, bytes_decides}
use Rattle.clean_base.specs.Lists.{At, IsDistinct}
use Rattle.indexmap.specs.IndexSet.{insert_all}
use Rattle.jimple_tree.specs.declared.tree.Class.{Class}
use Rattle.class_table.specs.Faults.{HaveNames, IsFirstDouble}
use Rattle.class_table.specs.Hierarchy.{class_names, heading}
use Rattle.class_table.proofs.Once.{all_distinct, all_new, next_new, next_known, front_kept, any_has, any_lacks}

abbrev pub name_of : Class → List ℕ
name_of c = c.name

-- the names that classes give
abbrev pub own : List Class → List (List ℕ)
own cs = map name_of cs

-- what the names are made of
pub made : (cs : List Class) → class_names cs ≡ insert_all (pointwise nat_eq) [] (own cs ++ flat_map heading cs)
unfolding class_names
made cs = refl

-- no name has two numbers
pub names_distinct : (cs : List Class) → IsDistinct (class_names cs)
names_distinct cs =
    subst (λ (l : List (List ℕ)). IsDistinct l) (sym (made cs)) (all_distinct (pointwise nat_eq) bytes_decides [] (own cs ++ flat_map heading cs) (λ i j d less within. absurd (omega (arith, within))))

-- each name that classes give or name has one
pub own_known : (cs : List Class) (name : List ℕ) → Contains (own cs) name → Contains (class_names cs) name
own_known cs name has = subst (λ (l : List (List ℕ)). Contains l name) (sym (made cs)) (all_new (pointwise nat_eq) bytes_decides [] (own cs ++ flat_map heading cs) name (Contains-append_left (own cs) (flat_map heading cs) name has))

pub heading_known : (cs : List Class) (name : List ℕ) → Contains (flat_map heading cs) name → Contains (class_names cs) name
heading_known cs name has = subst (λ (l : List (List ℕ)). Contains l name) (sym (made cs)) (all_new (pointwise nat_eq) bytes_decides [] (own cs ++ flat_map heading cs) name (Contains-append_right (own cs) (flat_map heading cs) name has))

-- classes have different names where no name of theirs stands twice
pub own_distinct : (cs : List Class) → HaveNames cs → IsDistinct (own cs)
own_distinct [] names i j d less below same = absurd (omega (arith, below))
own_distinct (x ∷ xs) names i j d less below same =
    let long = length-map (x ∷ xs) name_of in
    names i j x less (omega (arith, below, long)) (sym (get_or-map name_of (x ∷ xs) i x d (omega (arith, below, long, less))) ∙ same ∙ get_or-map name_of (x ∷ xs) j x d (omega (arith, below, long)))

pub own_differ : (cs : List Class) → IsDistinct (own cs) → HaveNames cs
own_differ cs distinct i j d less below same =
    let long = length-map cs name_of in
    distinct i j [] less (omega (arith, below, long)) (get_or-map name_of cs i d [] (omega (arith, below, less)) ∙ same ∙ sym (get_or-map name_of cs j d [] below))

-- how a name stands that a class has behind others
module _ (cs before : List Class) (c : Class) (behind : List Class) (parts : cs ≡ before ++ c ∷ behind) (names : HaveNames before) where
  rest : List (List ℕ)
  rest = own behind ++ flat_map heading cs

  split : class_names cs ≡ insert_all (pointwise nat_eq) [] (own before ++ c.name ∷ rest)
  unfolding rest
  split =
      made cs ∙ ap (λ (ds : List Class). insert_all (pointwise nat_eq) [] (own ds ++ flat_map heading cs)) parts
      ∙ ap (λ (ns : List (List ℕ)). insert_all (pointwise nat_eq) [] (ns ++ flat_map heading cs)) (map-append name_of before (c ∷ behind))
      ∙ ap (insert_all (pointwise nat_eq) []) (append_assoc (own before) (own (c ∷ behind)) (flat_map heading cs))

  count : length (own before) ≡ length before
  count = length-map before name_of

  -- its number is its place just where it is new
  pub new_there : At (class_names cs) (length before) c.name → Contains (own before) c.name → ⊥
  new_there at has =
      next_known (pointwise nat_eq) bytes_decides (own before) c.name rest (own_distinct before names)
      (subst (λ (l : List (List ℕ)). At l (length (own before)) c.name) split (subst (λ (n : ℕ). At (class_names cs) n c.name) (sym count) at)) has

  pub there_new : (Contains (own before) c.name → ⊥) → At (class_names cs) (length before) c.name
  there_new lacks =
      subst (λ (n : ℕ). At (class_names cs) n c.name) count
      (subst (λ (l : List (List ℕ)). At l (length (own before)) c.name) (sym split) (next_new (pointwise nat_eq) bytes_decides (own before) c.name rest (own_distinct before names) lacks))

  pub names_more : At (class_names cs) (length before) c.name → HaveNames (before ++ c ∷ [])
  names_more at = all_pairs_push (λ (x y : Class). x.name ≢ y.name) before c names (λ k d below same.
      let long = length-map before name_of in
      new_there at (k, (omega (arith, below, long)), get_or-map name_of before k d c.name below ∙ same))

  -- and else it is the first that stands twice
  pub double_here : (At (class_names cs) (length before) c.name → ⊥) → IsFirstDouble cs c.name
  double_here other = record {
    before = before;
    double = c;
    behind = behind;
    parts = parts;
    named = refl;
    distinct = names;
    again = by (list_any (pointwise nat_eq c.name) (own before)) refl;
  } where
    by : (b : Bool) → list_any (pointwise nat_eq c.name) (own before) ≡ b → (d : Class) × Contains before d × (d.name ≡ c.name)
    by true passes = earlier (any_has (pointwise nat_eq) bytes_decides (own before) c.name passes) where
      earlier : Contains (own before) c.name → (d : Class) × Contains before d × (d.name ≡ c.name)
      earlier (k, below, at) =
          let within : k < length before = let long = count in omega (arith, below, long) in
          (get_or before k c, Contains-get_or before k c within, sym (get_or-map name_of before k c c.name within) ∙ at)
    by false fails = absurd (other (there_new (any_lacks (pointwise nat_eq) bytes_decides (own before) c.name fails)))

-- a class at its place, between those before and behind it
pub between : (cs : List Class) (i : ℕ) (c : Class) → i < length cs → c ≡ get_or cs i c → cs ≡ take i cs ++ c ∷ drop (i + 1) cs
between cs i c below is = sym (take-append-drop i cs) ∙ ap (λ (ds : List Class). take i cs ++ ds) (drop_more cs i c below ∙ ap (λ (d : Class). d ∷ drop (i + 1) cs) (sym is))

pub one_more : (cs : List Class) (i : ℕ) (c : Class) → i < length cs → c ≡ get_or cs i c → HaveNames (take i cs) → At (class_names cs) i c.name → HaveNames (take (i + 1) cs)
one_more cs i c below is names at =
    let more : take (i + 1) cs ≡ take i cs ++ c ∷ [] = take_more cs i c below ∙ ap (λ (d : Class). take i cs ++ d ∷ []) (sym is) in
    let place : At (class_names cs) (length (take i cs)) c.name = subst (λ (n : ℕ). At (class_names cs) n c.name) (sym (length-take-le i cs (omega (arith, below)))) at in
    subst (λ (ds : List Class). HaveNames ds) (sym more) (names_more cs (take i cs) c (drop (i + 1) cs) (between cs i c below is) names place)

pub first_here : (cs : List Class) (i : ℕ) (c : Class) → i < length cs → c ≡ get_or cs i c → HaveNames (take i cs) → (At (class_names cs) i c.name → ⊥) → IsFirstDouble cs c.name
first_here cs i c below is names other =
    double_here cs (take i cs) c (drop (i + 1) cs) (between cs i c below is) names (λ at. other (subst (λ (n : ℕ). At (class_names cs) n c.name) (length-take-le i cs (omega (arith, below))) at))

-- the number of a given class is its place
pub own_number : (cs : List Class) → HaveNames cs → (i : ℕ) (c : Class) → i < length cs → c ≡ get_or cs i c → At (class_names cs) i c.name
own_number cs names i c below is =
    let distinct = own_distinct cs names in
    let front = front_kept (pointwise nat_eq) bytes_decides (own cs) (flat_map heading cs) distinct in
    let long = length-append (own cs) front.0 in
    let count = length-map cs name_of in
    subst (λ (l : List (List ℕ)). At l i c.name) (sym (made cs ∙ front.1))
    ((omega (arith, long, count, below)), get_or_append_left (own cs) front.0 c.name i (omega (arith, count, below)) ∙ get_or-map name_of cs i c c.name below ∙ ap name_of (sym is))
