-- Marks on the nodes of a graph, by one pass over an order of its nodes.
use Rattle.std.proofs.Common.{◌≡◌, ◌↔◌, ◌⊎◌, ◌<◌, ◌≤◌, ◌+◌, ◌-◌, ℕ, Bool, true, false, IsTrue, List, [], ◌∷◌, ◌++◌, length, get_or, replicate, set, take, refl, sym, ap, subst, ◌∙◌, inl, inr, arith, true≢false}
use Rattle.std.specs.Prelude.{Contains}
use Rattle.std.proofs.lemmas.List.{length-set, length-replicate, get_or-replicate, get_or_default, take_more, take_all, take-append-le}
use Rattle.std.proofs.lemmas.List.Elements.{Contains-push, Contains-push_cases, Contains-append_left}
use Rattle.clean_base.specs.Lists.{At}
use Rattle.reach_rows.specs.Graphs.{row, IsGraph, IsOrder, Steps}
use Rattle.reach_rows.specs.Reaches.{Reaches, here, on}
use Rattle.reach_rows.proofs.Paths.{reaches_more, steps_from, steps_to}
use Rattle.reach_rows.proofs.Places.{same_number_or_not, at_one, at_set_same, at_set_other, at_of_set}
use Rattle.class_table.specs.Marks.{AreMarked, Spreads}

-- the number that is read stands there
pub at_read : (xs : List ℕ) (i : ℕ) → i < length xs → At xs i (get_or xs i 0)
at_read xs i below = (below, get_or_default xs i (get_or xs i 0) 0 below)

-- the nodes of a list are marked

pub spread_more : (nodes : List ℕ) (i n : ℕ) (old mid new : List Bool) → i < length nodes → n ≡ get_or nodes i 0 → n < length old → new ≡ set mid n true → Spreads (Contains (take i nodes)) old mid → Spreads (Contains (take (i + 1) nodes)) old new
spread_more nodes i n old mid new below is within writes before = subst (Spreads (Contains (take (i + 1) nodes)) old) (sym writes) whole where
  next : take (i + 1) nodes ≡ take i nodes ++ n ∷ []
  next = take_more nodes i 0 below ∙ ap (λ (m : ℕ). take i nodes ++ m ∷ []) (sym is)

  inside : n < length mid
  inside = let count = before.count in omega (arith, count, within)

  kept : (a : ℕ) → At mid a true → At (set mid n true) a true
  kept a at = elim (same_number_or_not a n) [
    | inl same ↦ subst (λ (m : ℕ). At (set mid n true) m true) (sym same) (at_set_same mid n true inside)
    | inr other ↦ at_set_other mid n true a true other at
  ]

  more : (a : ℕ) → At old a true ⊎ ((a < length old) × Contains (take i nodes) a) → At old a true ⊎ ((a < length old) × Contains (take (i + 1) nodes) a)
  more a (inl at) = inl at
  more a (inr (less, has)) = inr (less, subst (λ (ns : List ℕ). Contains ns a) (sym next) (Contains-append_left (take i nodes) (n ∷ []) a has))

  last : Contains (take (i + 1) nodes) n
  last = subst (λ (ns : List ℕ). Contains ns n) (sym next) (Contains-push (take i nodes) n)

  back : (a : ℕ) → At old a true ⊎ ((a < length old) × Contains (take (i + 1) nodes) a) → At (set mid n true) a true
  back a (inl at) = kept a ((before.each a).1 (inl at))
  back a (inr (less, has)) = elim (Contains-push_cases (take i nodes) n a (subst (λ (ns : List ℕ). Contains ns a) next has)) [
    | inl early ↦ kept a ((before.each a).1 (inr (less, early)))
    | inr same ↦ subst (λ (m : ℕ). At (set mid n true) m true) same (at_set_same mid n true inside)
  ]

  whole : Spreads (Contains (take (i + 1) nodes)) old (set mid n true)
  whole = record {
    count = length-set mid n true ∙ before.count;
    each = λ a. (
      (λ at. elim (same_number_or_not a n) [
        | inl same ↦ inr (let equal : a ≡ n = same in omega (arith, equal, within), subst (Contains (take (i + 1) nodes)) (sym same) last)
        | inr other ↦ more a ((before.each a).0 (at_of_set mid n true a true at other))
      ]),
      back a,
    );
  }

-- one mark among none
pub marked_only : (n node : ℕ) (marks : List Bool) → marks ≡ replicate n false → (a : ℕ) → At (set marks node true) a true → a ≡ node
marked_only n node marks none a at = elim (same_number_or_not a node) [
  | inl same ↦ same
  | inr other ↦
      let was : At (replicate n false) a true = subst (λ (l : List Bool). At l a true) none (at_of_set marks node true a true at other) in
      let long : length (replicate n false) ≡ n = length-replicate n false in
      let inside = was.0 in
      absurd (true≢false (sym was.1 ∙ get_or-replicate n a false true (omega (arith, inside, long))))
]

-- a test that is the one or the other
pub tells_first : {A B : Type 0} (r : Bool) → r ≡ true → A → (IsTrue r ↔ (A ⊎ B))
tells_first r is a = ((λ yes. inl a), (λ way. is))

pub tells_other : {A B : Type 0} (r s : Bool) → r ≡ s → (A → ⊥) → (IsTrue s ↔ B) → (IsTrue r ↔ (A ⊎ B))
tells_other {A} {B} r s is lacks tells = ((λ yes. inr (tells.0 (sym is ∙ yes))), back) where
  back : A ⊎ B → IsTrue r
  back (inl a) = absurd (lacks a)
  back (inr b) = is ∙ tells.1 b

-- what is told of nodes and marks that were read
pub any_in : {nodes : List ℕ} (row : List ℕ) (read marks : List Bool) (r : Bool) → nodes ≡ row → read ≡ marks → (IsTrue r ↔ ((b : ℕ) × Contains nodes b × At read b true)) → (IsTrue r ↔ ((b : ℕ) × Contains row b × At marks b true))
any_in row read marks r same was tells =
    subst (λ (ms : List Bool). IsTrue r ↔ ((b : ℕ) × Contains row b × At ms b true)) was (subst (λ (ns : List ℕ). IsTrue r ↔ ((b : ℕ) × Contains ns b × At read b true)) same tells)

-- a list that is written back whole
pub all_back : {X : Type 0} (n : ℕ) (xs ys : List X) → length xs ≡ n → take n (xs ++ ys) ≡ xs
all_back n xs ys long = take-append-le n xs ys (omega (arith, long)) ∙ take_all n xs (omega (arith, long))

-- what is reached is the node, or is reached from one of its row
pub reach_cases : (rows : List (List ℕ)) (x y : ℕ) → Reaches (Steps rows) x y → (x ≡ y) ⊎ ((b : ℕ) × Steps rows x b × Reaches (Steps rows) b y)
reach_cases rows x y here = inl refl
reach_cases rows x y (on {b = by} step rest) = inr (by, step, rest)

-- a place from behind
abbrev pub place_of : List ℕ → ℕ → ℕ
place_of order passed = length order - 1 - passed

-- the nodes of the first so many places are marked where they lead to the node
abbrev pub AreMarkedTo : List (List ℕ) → List ℕ → ℕ → ℕ → List Bool → Type 0
AreMarkedTo rows order node passed marks = (j a : ℕ) → j < passed → At order j a → At marks a true ↔ Reaches (Steps rows) a node

-- the rows of the marked ones of the last so many are marked
abbrev pub AreClosedFrom : List (List ℕ) → List ℕ → ℕ → List Bool → Type 0
AreClosedFrom rows order passed marks = (j a b : ℕ) → length order ≤ j + passed → At order j a → At marks a true → Steps rows a b → At marks b true

module _ (rows : List (List ℕ)) (order : List ℕ) (graph : IsGraph rows) (is : IsOrder rows order) (node : ℕ) where
  -- each node of the order has a row
  pub has_row : (i x : ℕ) → At order i x → x < length rows
  has_row i x at = (is.all x).0 (i, at.0, at.1)

  -- those of a row stand before
  row_before : (i x b : ℕ) → At order i x → Steps rows x b → (j : ℕ) × (j < i) × At order j b
  row_before i x b at step =
      let there = (is.all b).1 (steps_to rows x b graph step) in
      let other : At order there.0 b = (there.1, there.2) in
      (there.0, is.behind i there.0 x b at other step, other)

  -- the next node

  leads : (i x : ℕ) (marks : List Bool) (r : Bool) → At order i x → AreMarkedTo rows order node i marks → (IsTrue r ↔ ((x ≡ node) ⊎ ((b : ℕ) × Contains (row rows x) b × At marks b true))) → IsTrue r ↔ Reaches (Steps rows) x node
  leads i x marks r at before tells = ((λ yes. up (tells.0 yes)), (λ way. tells.1 (down (reach_cases rows x node way)))) where
    up : (x ≡ node) ⊎ ((b : ℕ) × Contains (row rows x) b × At marks b true) → Reaches (Steps rows) x node
    up (inl same) = subst (Reaches (Steps rows) x) same here
    up (inr (b, step, marked)) = let there = row_before i x b at step in on step ((before there.0 b there.1 there.2).0 marked)

    down : (x ≡ node) ⊎ ((b : ℕ) × Steps rows x b × Reaches (Steps rows) b node) → (x ≡ node) ⊎ ((b : ℕ) × Contains (row rows x) b × At marks b true)
    down (inl same) = inl same
    down (inr (b, step, way)) = let there = row_before i x b at step in inr (b, step, (before there.0 b there.1 there.2).1 way)

  pub marked_more : (i x : ℕ) (old new : List Bool) (r : Bool) → At order i x → length old ≡ length rows → new ≡ set old x r → (IsTrue r ↔ ((x ≡ node) ⊎ ((b : ℕ) × Contains (row rows x) b × At old b true))) → AreMarkedTo rows order node i old
      → AreMarkedTo rows order node (i + 1) new
  marked_more i x old new r at count writes tells before = subst (AreMarkedTo rows order node (i + 1)) (sym writes) by where
    within : x < length old
    within = let below = has_row i x at in omega (arith, below, count)

    own : IsTrue r ↔ Reaches (Steps rows) x node
    own = leads i x old r at before tells

    set_there : At (set old x r) x r
    set_there = at_set_same old x r within

    this : At (set old x r) x true ↔ Reaches (Steps rows) x node
    this = (
      (λ marked. own.0 (at_one (set old x r) x r true set_there marked)),
      (λ way. subst (At (set old x r) x) (own.1 way) set_there),
    )

    by : AreMarkedTo rows order node (i + 1) (set old x r)
    by j a less other = elim (same_number_or_not a x) [
      | inl same ↦ subst (λ (m : ℕ). At (set old x r) m true ↔ Reaches (Steps rows) m node) (sym same) this
      | inr apart ↦
          let earlier : j < i = elim (same_number_or_not j i) [
            | inl here_again ↦ absurd (apart (at_one order i a x (subst (λ (k : ℕ). At order k a) here_again other) at))
            | inr differ ↦ omega (arith, less, differ)
          ] in
          let was = before j a earlier other in
          ((λ marked. was.0 (at_of_set old x r a true marked apart)), (λ way. at_set_other old x r a true apart (was.1 way)))
    ]

  pub marked_all : (passed : ℕ) (marks : List Bool) → length order ≤ passed → length marks ≡ length rows → AreMarkedTo rows order node passed marks → AreMarked rows (λ a. Reaches (Steps rows) a node) marks
  marked_all passed marks all count before = record {
    count = count;
    each = λ a below. (let there = (is.all a).1 below in before there.0 a (let inside = there.1 in omega (arith, inside, all)) (there.1, there.2));
  }

  -- the next node from behind

  abbrev pub AreFrom : List Bool → Type 0
  AreFrom marks = (a : ℕ) → At marks a true → Reaches (Steps rows) node a

  pub from_more : (x : ℕ) (old new : List Bool) → At old x true → Spreads (Contains (row rows x)) old new → AreFrom old → AreFrom new
  from_more x old new marked spreads from a at = elim ((spreads.each a).0 at) [
    | inl was ↦ from a was
    | inr step ↦ reaches_more (Steps rows) node x a (from x marked) step.1
  ]

  pub closed_more : (passed x : ℕ) (old new : List Bool) → passed < length order → At order (place_of order passed) x → length old ≡ length rows → Spreads (Contains (row rows x)) old new
      → AreClosedFrom rows order passed old → AreClosedFrom rows order (passed + 1) new
  closed_more passed x old new below place count spreads closed j a b late at marked step = elim (same_number_or_not j (place_of order passed)) [
    | inl same ↦
        let one : a ≡ x = at_one order (place_of order passed) a x (subst (λ (k : ℕ). At order k a) same at) place in
        let from : Steps rows x b = subst (λ (n : ℕ). Steps rows n b) one step in
        let within = steps_to rows x b graph from in
        (spreads.each b).1 (inr ((omega (arith, within, count)), from))
    | inr other ↦ elim ((spreads.each a).0 marked) [
      | inl was ↦ (spreads.each b).1 (inl (closed j a b (omega (arith, late, other, below)) at was step))
      | inr again ↦ absurd (let less : j < place_of order passed = is.behind (place_of order passed) j x a place at again.1 in omega (arith, less, late, below))
    ]
  ]

  pub closed_past : (passed x : ℕ) (marks : List Bool) → passed < length order → At order (place_of order passed) x → (At marks x true → ⊥) → AreClosedFrom rows order passed marks → AreClosedFrom rows order (passed + 1) marks
  closed_past passed x marks below place unmarked closed j a b late at marked step = elim (same_number_or_not j (place_of order passed)) [
    | inl same ↦
        let one : a ≡ x = at_one order (place_of order passed) a x (subst (λ (k : ℕ). At order k a) same at) place in
        absurd (unmarked (subst (λ (n : ℕ). At marks n true) one marked))
    | inr other ↦ closed j a b (omega (arith, late, other, below)) at marked step
  ]

  pub closed_none : (marks : List Bool) → AreClosedFrom rows order 0 marks
  closed_none marks j a b late at marked step = absurd (let below = at.0 in omega (arith, below, late))

  reached : (passed : ℕ) (marks : List Bool) → length order ≤ passed → AreClosedFrom rows order passed marks → (a b : ℕ) → At marks a true → Reaches (Steps rows) a b → At marks b true
  reached passed marks all closed a b at here = at
  reached passed marks all closed a b at (on {b = by} step rest) =
      let there = (is.all a).1 (steps_from rows a by step) in
      reached passed marks all closed by b (closed there.0 a by (omega (arith, all)) (there.1, there.2) at step) rest

  pub above_all : (passed : ℕ) (marks : List Bool) → length order ≤ passed → length marks ≡ length rows → At marks node true → AreFrom marks → AreClosedFrom rows order passed marks → AreMarked rows (λ a. Reaches (Steps rows) node a) marks
  above_all passed marks all count start from closed = record {
    count = count;
    each = λ a below. (from a, (λ way. reached passed marks all closed node a start way));
  }

  -- at first the node alone is marked
  pub from_start : (marks : List Bool) → ((a : ℕ) → At marks a true → a ≡ node) → AreFrom marks
  from_start marks only a at = subst (Reaches (Steps rows) node) (sym (only a at)) here

-- how far the pass from behind has come
pub record IsSpread (rows : List (List ℕ)) (order : List ℕ) (node passed : ℕ) (marks : List Bool) : Type 0 where
  pub count : length marks ≡ length rows
  pub start : At marks node true
  pub from : (a : ℕ) → At marks a true → Reaches (Steps rows) node a
  pub closed : AreClosedFrom rows order passed marks

module _ (rows : List (List ℕ)) (order : List ℕ) (graph : IsGraph rows) (is : IsOrder rows order) (node passed x : ℕ) (old new : List Bool) (below : passed < length order) (at : At order (place_of order passed) x) (was : IsSpread rows order node passed old) where
  pub spread_on : (nodes : List ℕ) (from to : List Bool) → At old x true → nodes ≡ row rows x → from ≡ old → Spreads (Contains nodes) from to → new ≡ to → IsSpread rows order node (passed + 1) new
  spread_on nodes from to marked same begins spreads ends = record {
    count = by.count ∙ was.count;
    start = (by.each node).1 (inl was.start);
    from = from_more rows order graph is node x old new marked by was.from;
    closed = closed_more rows order graph is node passed x old new below at was.count by was.closed;
  } where
    by : Spreads (Contains (row rows x)) old new
    by = subst (λ (ns : List ℕ). Spreads (Contains ns) old new) same (subst (λ (l : List Bool). Spreads (Contains nodes) l new) begins (subst (Spreads (Contains nodes) from) (sym ends) spreads))

  pub spread_past : (b : Bool) → b ≡ get_or old x b → b ≡ false → new ≡ old → IsSpread rows order node (passed + 1) new
  spread_past b read unmarked same = subst (IsSpread rows order node (passed + 1)) (sym same) (record {
    count = was.count;
    start = was.start;
    from = was.from;
    closed = closed_past rows order graph is node passed x old below at (λ marked. true≢false (sym marked.1 ∙ get_or_default old x true b marked.0 ∙ sym read ∙ unmarked)) was.closed;
  })
