-- The rows of classes, and empty ones behind them, are the graph of their names.
use Rattle.std.proofs.Common.{nat_eq, take, append_assoc, ◌≡◌, ◌+◌, ◌-◌, ◌<◌, ◌≤◌, ◌⊎◌, ℕ, List, [], ◌∷◌, ◌++◌, zero, suc, length, get_or, map, flat_map, replicate, All, Some, None, refl, sym, ap, subst, ◌∙◌, inl, inr, arith}
use Rattle.std.specs.Prelude.{Option, Contains}
use Rattle.std.proofs.lemmas.List.{get_or_default, get_or_past, get_or_append_left, get_or-append-add, get_or-append_right, get_or-replicate, length-append, length-map, length-replicate, replicate_more, length-take-le, length_push, get_or-take, get_or_push}
use Rattle.std.proofs.lemmas.List.Elements.{All-same, All-nil, Contains-get_or, Contains-append_left, Contains-append_right}
use lib.Pointwise.{pointwise, bytes_decides}
use Rattle.clean_base.specs.Lists.{At}
use Rattle.jimple_tree.specs.declared.tree.Class.{Class}
use Rattle.reach_rows.specs.Graphs.{row}
use Rattle.class_table.specs.Faults.{HaveNames}
use Rattle.class_table.specs.Hierarchy.{class_names, given, names_of, names_in, heading}
use Rattle.class_table.specs.Kinds.{kind_names, IsRow, AreOwnRows}
use Rattle.class_table.specs.Links.{name_at, AreRows}
use Rattle.class_table.specs.declared.rows.Kind.{Kind}
use Rattle.class_table.specs.declared.rows.Kind.TheVariants.{Heading, Superclass, Interfaces}
use Rattle.class_table.proofs.Doubles.{own, made, name_of, heading_known, own_distinct, own_number}
use Rattle.class_table.proofs.Linked.{superclass_within, interfaces_within, one_number}
use Rattle.class_table.proofs.Named.{given_is, given_own}
use Rattle.class_table.proofs.Once.{front_kept}

-- what holds of a list holds of its parts
pub all_front : {X : Type 0} (P : X → Type 0) (xs ys zs : List X) → xs ++ ys ≡ zs → All P zs → All P xs
all_front P xs ys zs is all k d below =
    let long = length-append xs ys in
    subst P (get_or_append_left xs ys d k below) (All-same P (xs ++ ys) zs is all k d (omega (arith, below, long)))

pub all_back : {X : Type 0} (P : X → Type 0) (xs ys zs : List X) → xs ++ ys ≡ zs → All P zs → All P ys
all_back P xs ys zs is all k d below =
    let long = length-append xs ys in
    subst P (get_or-append-add xs ys k d) (All-same P (xs ++ ys) zs is all (length xs + k) d (omega (arith, below, long)))

-- what an item gives stands among what all give
pub flat_has : {X Y : Type 0} (f : X → List Y) (xs : List X) (x : X) (y : Y) → Contains xs x → Contains (f x) y → Contains (flat_map f xs) y
flat_has f [] x y (k, below, at) has = absurd (omega (arith, below))
flat_has {X} {Y} f (z ∷ xs) x y (zero, below, at) has = Contains-append_left (f z) (flat_map f xs) y (subst (λ (w : X). Contains (f w) y) (sym at) has)
flat_has f (z ∷ xs) x y (suc k, below, at) has = Contains-append_right (f z) (flat_map f xs) y (flat_has f xs x y (k, (let less = below in omega (arith, less)), at) has)

-- each kind of names stands in headings
pub kind_within : (kind : Kind) (c : Class) (y : List ℕ) → Contains (kind_names kind c) y → Contains (heading c) y
kind_within Heading c y has = has
kind_within Superclass c y has = superclass_within c y has
kind_within Interfaces c y has = interfaces_within c y has

-- so each has a number
pub kinds_known : (kind : Kind) (cs : List Class) (keys : List (List ℕ)) → keys ≡ class_names cs → All (λ (c : Class). All (Contains keys) (kind_names kind c)) cs
kinds_known kind cs keys are k c below i d within =
    let class = get_or cs k c in
    let y = get_or (kind_names kind class) i d in
    let has : Contains (class_names cs) y = heading_known cs y (flat_has heading cs class y (Contains-get_or cs k c below) (kind_within kind class y (Contains-get_or (kind_names kind class) i d within))) in
    subst (λ (l : List (List ℕ)). Contains l y) (sym are) has

-- there are as many names as classes, or more
pub more_names : (cs : List Class) → HaveNames cs → length cs ≤ length (class_names cs)
more_names cs names =
    let front = front_kept (pointwise nat_eq) bytes_decides (own cs) (flat_map heading cs) (own_distinct cs names) in
    let all : length (class_names cs) ≡ length (own cs ++ front.0) = ap length (made cs ∙ front.1) in
    let long = length-append (own cs) front.0 in
    let count = length-map cs name_of in
    omega (arith, all, long, count)

-- the class at a place
pub class_at : (cs : List Class) (i : ℕ) → i < length cs → (c : Class) × (c ≡ get_or cs i c)
class_at [] i below = absurd (omega (arith, below))
class_at (x ∷ cs) i below = (get_or (x ∷ cs) i x, get_or_default (x ∷ cs) i x (get_or (x ∷ cs) i x) below)

order : (a b : ℕ) → (a < b) ⊎ (b ≤ a)
order a b = grind arith

-- one more empty row
pub blanks_more : (old mid new : List (List ℕ)) (n : ℕ) (r : List ℕ) → length old ≤ n → mid ≡ old ++ replicate (n - length old) [] → r ≡ [] → new ≡ mid ++ r ∷ [] → new ≡ old ++ replicate (n + 1 - length old) []
blanks_more old mid new n r long front blank is =
    let count : (n - length old) + 1 ≡ n + 1 - length old = omega (arith, long) in
    is ∙ ap (λ (x : List ℕ). mid ++ x ∷ []) blank ∙ ap (λ (xs : List (List ℕ)). xs ++ [] ∷ []) front ∙ append_assoc old (replicate (n - length old) []) ([] ∷ [])
    ∙ ap (λ (xs : List (List ℕ)). old ++ xs) (replicate_more (n - length old) []) ∙ ap (λ (k : ℕ). old ++ replicate k []) count

-- one more row, of the next class
pub own_rows_more : (keys : List (List ℕ)) (kind : Class → List (List ℕ)) (cs : List Class) (old new : List (List ℕ)) (i : ℕ) (c : Class) (r : List ℕ) → i < length cs → c ≡ get_or cs i c
    → AreOwnRows keys kind (take i cs) old → IsRow keys r (kind c) → new ≡ old ++ r ∷ [] → AreOwnRows keys kind (take (i + 1) cs) new
own_rows_more keys kind cs old new i c r below is before one pushed =
    let so_far : length old ≡ i = before.count ∙ length-take-le i cs (omega (arith, below)) in
    let more : length new ≡ length old + 1 = ap length pushed ∙ length_push old r in
    let all : length (take (i + 1) cs) ≡ i + 1 = length-take-le (i + 1) cs (omega (arith, below)) in
    record {
      count = omega (arith, so_far, more, all);
      each = λ j d at. elim (order j i) [
        | inl less ↦
            let short : length (take i cs) ≡ i = length-take-le i cs (omega (arith, below)) in
            let earlier : At (take i cs) j d = ((omega (arith, less, short)), get_or-take i cs j d less ∙ sym (get_or-take (i + 1) cs j d (omega (arith, less))) ∙ at.1) in
            let same : row new j ≡ row old j = ap (λ (rs : List (List ℕ)). get_or rs j []) pushed ∙ get_or_append_left old (r ∷ []) [] j (omega (arith, less, so_far)) in
            subst (λ (ns : List ℕ). IsRow keys ns (kind d)) (sym same) (before.each j d earlier)
        | inr past ↦
            let here : j ≡ i = let within = at.0 in omega (arith, past, within, all) in
            let own : d ≡ c = sym at.1 ∙ get_or-take (i + 1) cs j d (omega (arith, here)) ∙ ap (λ (n : ℕ). get_or cs n d) here ∙ get_or_default cs i d c below ∙ sym is in
            let same : row new j ≡ r = ap (λ (rs : List (List ℕ)). get_or rs j []) pushed ∙ get_or_push old r [] j (so_far ∙ sym here) in
            subst (λ (ns : List ℕ). IsRow keys ns (kind d)) (sym same) (subst (λ (e : Class). IsRow keys r (kind e)) (sym own) one)
      ];
    }

module _ (cs : List Class) (kind : Class → List (List ℕ)) (own_rows : List (List ℕ)) (names : HaveNames cs) (rows : List (List ℕ)) (are : AreOwnRows (class_names cs) kind cs own_rows)
    (is : rows ≡ own_rows ++ replicate (length (class_names cs) - length own_rows) []) where
  whole : length rows ≡ length (class_names cs)
  whole =
      let all : length rows ≡ length (own_rows ++ replicate (length (class_names cs) - length own_rows) []) = ap length is in
      let long = length-append own_rows (replicate {A = List ℕ} (length (class_names cs) - length own_rows) []) in
      let rest : length (replicate {A = List ℕ} (length (class_names cs) - length own_rows) []) ≡ length (class_names cs) - length own_rows = length-replicate (length (class_names cs) - length own_rows) [] in
      let more = more_names cs names in
      let same = are.count in
      omega (arith, all, long, rest, more, same)

  own_row : (i : ℕ) (c : Class) → i < length cs → c ≡ get_or cs i c → IsRow (class_names cs) (row rows i) (kind c)
  own_row i c below here =
      let same = are.count in
      let within : i < length own_rows = omega (arith, same, below) in
      let at : row rows i ≡ get_or own_rows i [] = ap (λ (rs : List (List ℕ)). get_or rs i []) is ∙ get_or_append_left own_rows (replicate (length (class_names cs) - length own_rows) []) [] i within in
      subst (λ (r : List ℕ). IsRow (class_names cs) r (kind c)) (sym at) (are.each i c (below, sym here))

  blank_row : (i : ℕ) → length cs ≤ i → row rows i ≡ []
  blank_row i past = by (order i (length rows)) where
    by : (i < length rows) ⊎ (length rows ≤ i) → row rows i ≡ []
    by (inr beyond) = get_or_past rows i [] beyond
    by (inl below) =
        let same = are.count in
        let all = whole in
        ap (λ (rs : List (List ℕ)). get_or rs i []) is
        ∙ get_or-append_right own_rows (replicate (length (class_names cs) - length own_rows) []) (length own_rows) i [] refl (omega (arith, same, past))
        ∙ get_or-replicate (length (class_names cs) - length own_rows) (i - length own_rows) [] [] (omega (arith, same, past, all, below))

  given_row : (i : ℕ) (name : List ℕ) → At (class_names cs) i name → (c : Class) → i < length cs → c ≡ get_or cs i c → map (name_at cs) (row rows i) ≡ names_in kind cs name
  given_row i name at c below here =
      let number : At (class_names cs) i c.name = own_number cs names i c below here in
      let named : c.name ≡ name = sym number.1 ∙ get_or_default (class_names cs) i c.name name at.0 ∙ at.1 in
      let has : given cs c.name ≡ Some c = given_own cs names c (i, below, sym here) in
      (own_row i c below here).0 ∙ sym (ap (names_of kind) has) ∙ ap (names_in kind cs) named

  other_row : (i : ℕ) (name : List ℕ) → At (class_names cs) i name → length cs ≤ i → map (name_at cs) (row rows i) ≡ names_in kind cs name
  other_row i name at past = ap (map (name_at cs)) (blank_row i past) ∙ by (given cs name) refl where
    by : (o : Option Class) → given cs name ≡ o → [] ≡ names_of kind (given cs name)
    by None none = sym (ap (names_of kind) none)
    by (Some c) some =
        let found = given_is cs name c some in
        let k = found.0.0 in
        let within : k < length cs = found.0.1 in
        let number : At (class_names cs) k name = subst (At (class_names cs) k) found.1 (own_number cs names k c within (sym found.0.2)) in
        let same : k ≡ i = one_number cs k i name number at in
        absurd (omega (arith, within, same, past))

  pub are_rows : AreRows cs kind rows
  are_rows = record {
    count = whole;
    each = λ i name at. elim (order i (length cs)) [
      | inl below ↦ let c = class_at cs i below in given_row i name at c.0 below c.1
      | inr past ↦ other_row i name at past
    ];
    within = λ i. elim (order i (length cs)) [
      | inl below ↦ let c = class_at cs i below in (own_row i c.0 below c.1).1
      | inr past ↦ All-same (λ (j : ℕ). j < length (class_names cs)) (row rows i) [] (blank_row i past) (All-nil (λ (j : ℕ). j < length (class_names cs)))
    ];
  }
