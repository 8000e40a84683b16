-- The nodes of a finished search, taken from the last one to the first.
use Rattle.std.proofs.Common.{◌≡◌, ◌↔◌, ℕ, ◌+◌, ◌-◌, ◌<◌, ◌≤◌, Bool, true, false, IsTrue, List, length, get_or, set, sym, subst, refl, arith, inl, inr}
use Rattle.std.proofs.lemmas.Bool.{cases_eq}
use Rattle.clean_base.specs.Lists.{At}
use Rattle.reach_rows.specs.Backward.{IsBackward}
use Rattle.reach_rows.specs.Cycles.{AreTold, AreToldFrom, IsSpread, IsTaken, IsWhole}
use Rattle.reach_rows.specs.Graphs.{Steps, IsGraph, IsOrder, IsOnCycle, IsFirstOnCycle}
use Rattle.reach_rows.specs.Reaches.{here}
use Rattle.reach_rows.specs.Search.{IsFinish}
use Rattle.reach_rows.proofs.Backwards.{reach_back, reach_forth}
use Rattle.reach_rows.proofs.Floods.{reached_seen}
use Rattle.reach_rows.proofs.Paths.{steps_from}
use Rattle.reach_rows.proofs.Places.{at_one, at_set_same, at_of_set}

module _ (rows backs : List (List ℕ)) (graph : IsGraph rows) (back : IsBackward rows backs) (order : List ℕ) (finish : IsFinish rows order) (passed x : ℕ) (within : passed < length order) (is : x ≡ get_or order (length order - 1 - passed) x) where
  place : ℕ
  place = length order - 1 - passed

  pub at_place : At order (length order - 1 - passed) x
  at_place = (omega (arith, within), sym is)

  pub taken_within : x < length rows
  taken_within = (finish.all x).0 (length order - 1 - passed, omega (arith, within), sym is)

  -- one node more
  pub taken_more : (old new : List Bool) → IsTaken rows order passed old → IsSpread backs x old new → IsTaken rows order (passed + 1) new
  taken_more old new taken spread = record {
    has = λ i a late at. elim (cases_eq i (length order - 1 - passed)) [
      | inl same ↦ subst (λ (n : ℕ). At new n true) (at_one order (length order - 1 - passed) x a at_place (subst (λ (k : ℕ). At order k a) same at)) spread.start
      | inr other ↦ spread.kept a (taken.has i a (omega (arith, late, other, within)) at)
    ];
    leads = λ b at. elim (spread.from b at) [
      | inl was ↦ let h = taken.leads b was in (h.0, h.1, (let late : length order ≤ h.0 + passed = h.2 in omega arith), h.3, h.4)
      | inr way ↦ (length order - 1 - passed, x, omega (arith, within), at_place, reach_back rows backs back x b way)
    ];
  }

  -- it is on a cycle exactly where one of its row is seen
  pub told_one : (seen : List Bool) (waiting : List ℕ) (r : Bool) → IsTaken rows order (passed + 1) seen → IsWhole backs seen waiting → IsTrue r ↔ ((b : ℕ) × Steps rows x b × At seen b true) → IsTrue r ↔ IsOnCycle rows x
  told_one seen waiting r taken whole tells = (
    (λ yes.
        let h = tells.0 yes in
        let end = taken.leads h.0 h.2 in
        elim (finish.behind (length order - 1 - passed) end.0 x end.1 at_place end.3 (record { by = h.0; step = h.1; rest = end.4 })) [
          | inl cycle ↦ cycle
          | inr less ↦ absurd (let late : length order ≤ end.0 + (passed + 1) = end.2 in omega (arith, less, late))
        ]),
    (λ cycle.
        let start : At seen x true = taken.has (length order - 1 - passed) x (omega (arith, within)) at_place in
        tells.1 (cycle.by, cycle.step, reached_seen backs seen waiting whole x cycle.by start (reach_forth rows backs back cycle.by x cycle.rest))),
  )

  pub told_more : (told new : List Bool) (r : Bool) → x < length told → IsTrue r ↔ IsOnCycle rows x → AreToldFrom rows order passed told → new ≡ set told x r → AreToldFrom rows order (passed + 1) new
  told_more told new r below tells was writes i a b late at bit = elim (cases_eq a x) [
    | inl same ↦
        let read : r ≡ b = at_one (set told x r) x r b (at_set_same told x r below) (subst (λ (n : ℕ). At (set told x r) n b) same (subst (λ (ts : List Bool). At ts a b) writes bit)) in
        subst (λ (n : ℕ). IsTrue b ↔ IsOnCycle rows n) (sym same) (subst (λ (t : Bool). IsTrue t ↔ IsOnCycle rows x) read tells)
    | inr apart ↦ elim (cases_eq i (length order - 1 - passed)) [
      | inl here_again ↦ absurd (apart (sym (at_one order (length order - 1 - passed) x a at_place (subst (λ (k : ℕ). At order k a) here_again at))))
      | inr other ↦ was i a b (omega (arith, late, other, within)) at (at_of_set told x r a b (subst (λ (ts : List Bool). At ts a b) writes bit) apart)
    ]
  ]

pub all_told : (rows : List (List ℕ)) (order : List ℕ) → IsFinish rows order → (passed : ℕ) (told : List Bool) → length order ≤ passed → length told ≡ length rows → AreToldFrom rows order passed told → AreTold rows told
all_told rows order finish passed told all count is = record {
  count = count;
  each = λ a b at.
      let below : a < length rows = (let within : a < length told = at.0 in omega (arith, within, count)) in
      let there = (finish.all a).1 below in
      is there.0 a b (omega (arith, all)) (there.1, there.2) at;
}

-- the first of which it is told
pub first_told : (rows : List (List ℕ)) (told : List Bool) (a : ℕ) → AreTold rows told → At told a true → ((k : ℕ) → k < a → At told k false) → IsFirstOnCycle rows a
first_told rows told a tells at before = record {
  on = (tells.each a true at).0 refl;
  first = λ b less cycle. absurd (let yes : false ≡ true = (tells.each b false (before b less)).1 cycle in cc);
}

pub none_told : (rows : List (List ℕ)) (told : List Bool) → AreTold rows told → ((k : ℕ) → k < length told → At told k false) → (a : ℕ) → IsOnCycle rows a → ⊥
none_told rows told tells none a cycle =
    let below : a < length told = (let within : a < length rows = steps_from rows a cycle.by cycle.step in let count : length told ≡ length rows = tells.count in omega arith) in
    absurd (let yes : false ≡ true = (tells.each a false (none a below)).1 cycle in cc)

-- without cycles all of a row stands before its node
pub finish_order : (rows : List (List ℕ)) (order : List ℕ) → IsFinish rows order → ((a : ℕ) → IsOnCycle rows a → ⊥) → IsOrder rows order
finish_order rows order finish none = record {
  all = finish.all;
  distinct = finish.distinct;
  behind = λ i j a b at other step. elim (finish.behind i j a b at other (record { by = b; step = step; rest = here })) [ inl cycle ↦ absurd (none a cycle) | inr less ↦ less ];
}
