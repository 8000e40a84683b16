-- The graph of the numbers of names is the hierarchy of the names.
use Rattle.std.proofs.Common.{◌≡◌, ◌+◌, ◌<◌, ◌≤◌, ◌⊎◌, ℕ, zero, suc, Bool, true, false, List, [], ◌∷◌, ◌++◌, length, get_or, take, drop, map, if◌then◌else◌, Some, None, refl, sym, ap, subst, ◌∙◌, inl, inr, arith}
use Rattle.std.specs.Prelude.{Option, Contains}
use Rattle.std.proofs.lemmas.List.{get_or-map, get_or_default, get_or_past, length-map, get_or-take, length-take}
use Rattle.std.proofs.lemmas.List.Elements.{All-contains, Contains-append_left, Contains-append_right}
use Rattle.clean_base.specs.Lists.{At}
use Rattle.jimple_tree.specs.declared.tree.Class.{Class}
use Rattle.reach_rows.specs.Graphs.{row, Steps, IsGraph, IsOrder, IsOnCycle, IsFirstOnCycle}
use Rattle.reach_rows.specs.Reaches.{Reaches, Follows, here, on}
use Rattle.class_table.specs.Faults.{HaveNames, IsFirstCycle, IsAcyclic}
use Rattle.class_table.specs.Hierarchy.{class_names, given, names_of, names_in, heading, Extends}
use Rattle.class_table.specs.Links.{name_at, AreRows}
use Rattle.class_table.specs.Resolving.{superclass, interfaces}
use Rattle.class_table.proofs.Doubles.{names_distinct, own_number, between}
use Rattle.class_table.proofs.Named.{given_is}
use Rattle.class_table.proofs.Once.{one_place}

-- items of a mapped list
pub map_has : {X Y : Type 0} (f : X → Y) (xs : List X) (x : X) → Contains xs x → Contains (map f xs) (f x)
map_has f xs x (k, below, at) = (k, (let long = length-map xs f in omega (arith, below, long)), get_or-map f xs k x (f x) below ∙ ap f at)

pub map_from : {X Y : Type 0} (f : X → Y) (xs : List X) (y : Y) → Contains (map f xs) y → (x : X) × Contains xs x × (f x ≡ y)
map_from f [] y (k, below, at) = absurd (omega (arith, below))
map_from f (x ∷ xs) y (zero, below, at) = (x, (0, (omega arith), refl), at)
map_from f (x ∷ xs) y (suc k, below, at) =
    let rest = map_from f xs y (k, (let less = below in omega (arith, less)), at) in
    let has = rest.1 in
    (rest.0, (suc has.0, (let within = has.1 in omega (arith, within)), has.2), rest.2)

module _ (cs : List Class) where
  -- a number and its name
  pub name_is : (i : ℕ) (x : List ℕ) → At (class_names cs) i x → name_at cs i ≡ x
  name_is i x at = get_or_default (class_names cs) i [] x at.0 ∙ at.1

  pub at_name : (i : ℕ) → i < length (class_names cs) → At (class_names cs) i (name_at cs i)
  at_name i below = (below, get_or_default (class_names cs) i (name_at cs i) [] below)

  pub one_number : (i j : ℕ) (x : List ℕ) → At (class_names cs) i x → At (class_names cs) j x → i ≡ j
  one_number i j x at other = one_place (class_names cs) (names_distinct cs) i j x at other

  module _ (kind : Class → List (List ℕ)) (rows : List (List ℕ)) (are : AreRows cs kind rows) where
    -- a number with a step is a name's
    pub step_from : (i j : ℕ) → Steps rows i j → i < length (class_names cs)
    step_from i j (k, below, at) = by (cases i (length rows)) where
      cases : (a b : ℕ) → (a < b) ⊎ (b ≤ a)
      cases a b = grind arith

      by : (i < length rows) ⊎ (length rows ≤ i) → i < length (class_names cs)
      by (inl less) = let count = are.count in omega (arith, less, count)
      by (inr more) = absurd (let none : length (row rows i) ≡ 0 = ap length (get_or_past rows i [] more) in omega (arith, none, below))

    pub step_to : (i j : ℕ) → Steps rows i j → j < length (class_names cs)
    step_to i j has = All-contains (λ (n : ℕ). n < length (class_names cs)) (row rows i) j (are.within i) has

    -- a step leads to a name of the class, and each such name has one
    pub step_names : (i j : ℕ) (x y : List ℕ) → At (class_names cs) i x → At (class_names cs) j y → Steps rows i j → Contains (names_in kind cs x) y
    step_names i j x y at other has =
        subst (λ (ns : List (List ℕ)). Contains ns y) (are.each i x at) (subst (Contains (map (name_at cs) (row rows i))) (name_is j y other) (map_has (name_at cs) (row rows i) j has))

    pub names_step : (i : ℕ) (x y : List ℕ) → At (class_names cs) i x → Contains (names_in kind cs x) y → (j : ℕ) × At (class_names cs) j y × Steps rows i j
    names_step i x y at has =
        let found = map_from (name_at cs) (row rows i) y (subst (λ (ns : List (List ℕ)). Contains ns y) (sym (are.each i x at)) has) in
        let j = found.0 in
        let within : j < length (class_names cs) = step_to i j found.1 in
        (j, subst (λ (z : List ℕ). At (class_names cs) j z) found.2 (at_name j within), found.1)

    -- where a name has names of the kind, it is a given class's
    pub step_class : (x y : List ℕ) → Contains (names_in kind cs x) y → (c : Class) × Contains cs c × (c.name ≡ x)
    step_class x y has = by (given cs x) refl has where
      by : (o : Option Class) → given cs x ≡ o → Contains (names_of kind o) y → (c : Class) × Contains cs c × (c.name ≡ x)
      by None is (k, below, at) = absurd (omega (arith, below))
      by (Some c) is has = let found = given_is cs x c is in (c, found.0, found.1)

    pub is_graph : IsGraph rows
    is_graph k d below n e within =
        let own : get_or rows k d ≡ row rows k = get_or_default rows k d [] below in
        let each = are.within k n e (subst (λ (ns : List ℕ). n < length ns) own within) in
        let same : get_or (get_or rows k d) n e ≡ get_or (row rows k) n e = ap (λ (ns : List ℕ). get_or ns n e) own in
        let count = are.count in
        omega (arith, each, same, count)

  module _ (rows : List (List ℕ)) (are : AreRows cs heading rows) where
    pub reach_names : {i j : ℕ} → Reaches (Steps rows) i j → (x y : List ℕ) → At (class_names cs) i x → At (class_names cs) j y → Reaches (Extends cs) x y
    reach_names {i} here x y at other = subst (λ (z : List ℕ). Reaches (Extends cs) x z) (sym (name_is i x at) ∙ name_is i y other) here
    reach_names (on {a} {b} {c} step rest) x y at other =
        let within : b < length (class_names cs) = step_to heading rows are a b step in
        on (step_names heading rows are a b x (name_at cs b) at (at_name b within) step) (reach_names rest (name_at cs b) y (at_name b within) other)

    pub reach_numbers : {x y : List ℕ} → Reaches (Extends cs) x y → (i : ℕ) → At (class_names cs) i x → (j : ℕ) × At (class_names cs) j y × Reaches (Steps rows) i j
    reach_numbers here i at = (i, at, here)
    reach_numbers (on {a} {b} {c} step rest) i at =
        let next = names_step heading rows are i a b at step in
        let last = reach_numbers rest next.0 next.1 in
        (last.0, last.1, on next.2 last.2)

    pub follow_names : (i j : ℕ) (x y : List ℕ) → At (class_names cs) i x → At (class_names cs) j y → Follows (Steps rows) i j → Follows (Extends cs) x y
    follow_names i j x y at other follows =
        let k = follows.by in
        let within : k < length (class_names cs) = step_to heading rows are i k follows.step in
        record {
          by = name_at cs k;
          step = step_names heading rows are i k x (name_at cs k) at (at_name k within) follows.step;
          rest = reach_names follows.rest (name_at cs k) y (at_name k within) other;
        }

    pub follow_numbered : (i : ℕ) (x y : List ℕ) → At (class_names cs) i x → Follows (Extends cs) x y → (j : ℕ) × At (class_names cs) j y × Follows (Steps rows) i j
    follow_numbered i x y at follows =
        let next = names_step heading rows are i x follows.by at follows.step in
        let last = reach_numbers follows.rest next.0 next.1 in
        (last.0, last.1, record { by = next.0; step = next.2; rest = last.2 })

    pub follow_numbers : (i j : ℕ) (x y : List ℕ) → At (class_names cs) i x → At (class_names cs) j y → Follows (Extends cs) x y → Follows (Steps rows) i j
    follow_numbers i j x y at other follows =
        let found = follow_numbered i x y at follows in
        subst (Follows (Steps rows) i) (one_number found.0 j y found.1 other) found.2

    module _ (names : HaveNames cs) where
      -- a name that has names in a heading has the number of its class
      own_place : (x y : List ℕ) → Extends cs x y → (k : ℕ) × (c : Class) × (k < length cs) × (c ≡ get_or cs k c) × At (class_names cs) k x × (c.name ≡ x)
      own_place x y has =
          let found = step_class heading rows are x y has in
          let c = found.0 in
          let k = found.1.0 in
          let is : c ≡ get_or cs k c = sym found.1.2 in
          (k, c, found.1.1, is, subst (At (class_names cs) k) found.2 (own_number cs names k c found.1.1 is), found.2)

      pub acyclic : ((a : ℕ) → IsOnCycle rows a → ⊥) → IsAcyclic cs
      acyclic none x own =
          let place = own_place x own.by own.step in
          none place.0 (follow_numbers place.0 place.0 x x place.4 place.4 own)

      pub first_cycle : (a : ℕ) → IsFirstOnCycle rows a → IsFirstCycle cs (name_at cs a)
      first_cycle a cycle = by (own_place (name_at cs a) up.by up.step) where
        at : At (class_names cs) a (name_at cs a)
        at = at_name a (step_from heading rows are a cycle.on.by cycle.on.step)

        up : Follows (Extends cs) (name_at cs a) (name_at cs a)
        up = follow_names a a (name_at cs a) (name_at cs a) at at cycle.on

        by : (k : ℕ) × (c : Class) × (k < length cs) × (c ≡ get_or cs k c) × At (class_names cs) k (name_at cs a) × (c.name ≡ name_at cs a) → IsFirstCycle cs (name_at cs a)
        by (k, c, below, is, place, named) = record {
          before = take k cs;
          cyclic = c;
          behind = drop (k + 1) cs;
          parts = between cs k c below is;
          named = named;
          on = up;
          first = λ d (n, within, same) own.
              let bound = length-take k cs in
              let less : n < k = omega (arith, within, bound) in
              let earlier : n < length cs = omega (arith, less, below) in
              let number : At (class_names cs) n d.name = own_number cs names n d earlier (sym (sym (get_or-take k cs n d less) ∙ same)) in
              let here : k ≡ a = one_number k a (name_at cs a) place at in
              cycle.first n (omega (arith, less, here)) (follow_numbers n n d.name d.name number number own);
        }

    -- an order of the graph is one of the graph of a part of the names
    pub order_of_part : (kind : Class → List (List ℕ)) (part : List (List ℕ)) → AreRows cs kind part → ((c : Class) (y : List ℕ) → Contains (kind c) y → Contains (heading c) y)
        → (order : List ℕ) → IsOrder rows order → IsOrder part order
    order_of_part kind part these within order is = record {
      all = λ a. (
        (λ has. let below = (is.all a).0 has in let one = are.count in let two = these.count in omega (arith, below, one, two)),
        (λ below. (is.all a).1 (let one = are.count in let two = these.count in omega (arith, below, one, two))),
      );
      distinct = is.distinct;
      behind = λ i j a b one other step. is.behind i j a b one other (lifted a b step);
    } where
      wider : (x y : List ℕ) (o : Option Class) → Contains (names_of kind o) y → Contains (names_of heading o) y
      wider x y None has = has
      wider x y (Some c) has = within c y has

      lifted : (a b : ℕ) → Steps part a b → Steps rows a b
      lifted a b step =
          let x = name_at cs a in
          let y = name_at cs b in
          let at : At (class_names cs) a x = at_name a (step_from kind part these a b step) in
          let other : At (class_names cs) b y = at_name b (step_to kind part these a b step) in
          let found = names_step heading rows are a x y at (wider x y (given cs x) (step_names kind part these a b x y at other step)) in
          subst (Steps rows a) (one_number found.0 b y found.1 other) found.2

-- superclasses and interfaces stand in headings
pub superclass_within : (c : Class) (y : List ℕ) → Contains (superclass c) y → Contains (heading c) y
superclass_within c y has = by c.is_interface has where
  by : (b : Bool) → Contains (if b then [] else c.extends) y → Contains (heading c) y
  by true (k, below, at) = absurd (omega (arith, below))
  by false has = Contains-append_left c.extends c.implements y has

pub interfaces_within : (c : Class) (y : List ℕ) → Contains (interfaces c) y → Contains (heading c) y
interfaces_within c y has = by c.is_interface has where
  by : (b : Bool) → Contains (if b then c.extends ++ c.implements else c.implements) y → Contains (heading c) y
  by true has = has
  by false has = Contains-append_right c.extends c.implements y has

-- graphs and an order that were read
module _ (cs : List Class) where
  pub read_graph : (kind : Class → List (List ℕ)) (rows read : List (List ℕ)) → AreRows cs kind rows → read ≡ rows → IsGraph read
  read_graph kind rows read are same = subst (λ (l : List (List ℕ)). IsGraph l) (sym same) (is_graph cs kind rows are)

  pub read_order : (kind : Class → List (List ℕ)) (rows part read : List (List ℕ)) (order known : List ℕ) → AreRows cs heading rows → AreRows cs kind part → ((c : Class) (y : List ℕ) → Contains (kind c) y → Contains (heading c) y)
      → IsOrder rows order → read ≡ part → known ≡ order → IsOrder read known
  read_order kind rows part read order known are these within is same was =
      subst (λ (l : List (List ℕ)). IsOrder l known) (sym same) (subst (IsOrder part) (sym was) (order_of_part cs rows are kind part these within order is))
