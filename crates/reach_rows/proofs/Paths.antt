-- What is reached by steps one after another, and what an order says of it.
use Rattle.std.proofs.Common.{◌≡◌, ℕ, ◌<◌, ◌≤◌, List, [], length, get_or, inl, inr, subst, ap, arith}
use Rattle.std.specs.Prelude.{All, Contains}
use Rattle.std.proofs.lemmas.List.{get_or_past}
use Rattle.std.proofs.lemmas.Bool.{cases_lt}
use Rattle.std.proofs.lemmas.List.Elements.{All-contains, Contains-get_or}
use Rattle.clean_base.specs.Lists.{At}
use Rattle.reach_rows.specs.Reaches.{Reaches, here, on, Follows}
use Rattle.reach_rows.specs.Graphs.{row, Steps, IsGraph, IsOrder, IsOnCycle}
use Rattle.reach_rows.proofs.Places.{place_one}

-- one step more
pub reaches_more : {X : Type 0} (Step : X → X → Type 0) (a b c : X) → Reaches Step a b → Step b c → Reaches Step a c
reaches_more Step a b c here step = on step here
reaches_more Step a b c (on {b = by} first rest) step = on first (reaches_more Step by b c rest step)

pub reaches_on : {X : Type 0} (Step : X → X → Type 0) (a b c : X) → Reaches Step a b → Reaches Step b c → Reaches Step a c
reaches_on Step a b c here rest = rest
reaches_on Step a b c (on {b = by} first way) rest = on first (reaches_on Step by b c way rest)

pub reaches_follows : {X : Type 0} (Step : X → X → Type 0) (a b c : X) → Reaches Step a b → Step b c → Follows Step a c
reaches_follows Step a b c here step = record { by = c; step = step; rest = here }
reaches_follows Step a b c (on {b = by} first rest) step = record { by = by; step = first; rest = reaches_more Step by b c rest step }

pub follows_more : {X : Type 0} (Step : X → X → Type 0) (a b c : X) → Follows Step a b → Step b c → Follows Step a c
follows_more Step a b c follows step = record { by = follows.by; step = follows.step; rest = reaches_more Step follows.by b c follows.rest step }

-- a node that steps has a row
pub steps_from : (rows : List (List ℕ)) (a b : ℕ) → Steps rows a b → a < length rows
steps_from rows a b step = elim (cases_lt a (length rows)) [
  | inl below ↦ below
  | inr past ↦ absurd (let none : length (row rows a) ≡ 0 = ap length (get_or_past rows a [] past) in let some : step.0 < length (row rows a) = step.1 in omega arith)
]

-- and so has the node to which it steps
pub steps_to : (rows : List (List ℕ)) (a b : ℕ) → IsGraph rows → Steps rows a b → b < length rows
steps_to rows a b graph step = All-contains (λ b. b < length rows) (row rows a) b (graph a _ (steps_from rows a b step)) step

-- what is reached stands no later
pub reached_before : (rows : List (List ℕ)) (order : List ℕ) → IsGraph rows → IsOrder rows order → (a b : ℕ) → Reaches (Steps rows) a b → (i : ℕ) → At order i a → (j : ℕ) × (j ≤ i) × At order j b
reached_before rows order graph is a b here i at = (i, omega arith, at)
reached_before rows order graph is a b (on {b = by} step rest) i at =
    let there = (is.all by).1 (steps_to rows a by graph step) in
    let less : there.0 < i = is.behind i there.0 a by at (there.1, there.2) step in
    let end = reached_before rows order graph is by b rest there.0 (there.1, there.2) in
    (end.0, (let before : end.0 ≤ there.0 = end.1 in omega arith), end.2)

-- so that no node of an order is reached from itself
pub order_acyclic : (rows : List (List ℕ)) (order : List ℕ) → IsGraph rows → IsOrder rows order → (a : ℕ) → IsOnCycle rows a → ⊥
order_acyclic rows order graph is a cycle =
    let start = (is.all a).1 (steps_from rows a cycle.by cycle.step) in
    let there = (is.all cycle.by).1 (steps_to rows a cycle.by graph cycle.step) in
    let less : there.0 < start.0 = is.behind start.0 there.0 a cycle.by (start.1, start.2) (there.1, there.2) cycle.step in
    let end = reached_before rows order graph is cycle.by a cycle.rest there.0 (there.1, there.2) in
    place_one order end.0 start.0 a is.distinct end.2 (start.1, start.2) (let before : end.0 ≤ there.0 = end.1 in omega arith)

-- all of a row that was read has rows
pub row_within : (rows : List (List ℕ)) (a n : ℕ) (found : List ℕ) → IsGraph rows → n ≡ length rows → found ≡ row rows a → All (λ b. b < n) found
row_within rows a n found graph count same k d below =
    let within : get_or found k d < length rows = steps_to rows a _ graph (subst (λ (xs : List ℕ). Contains xs (get_or found k d)) same (Contains-get_or found k d below)) in omega arith
