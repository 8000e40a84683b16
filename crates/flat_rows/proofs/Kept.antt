-- Rows in one list of items, as they grow and as they are read.
use Rattle.std.proofs.Common.{◌≡◌, ℕ, zero, suc, ◌+◌, ◌-◌, ◌<◌, ◌≤◌, List, [], ◌∷◌, ◌++◌, length, get_or, take, drop, refl, sym, ap, ◌∙◌, subst, arith}
use Rattle.std.proofs.lemmas.List.{take_rest, drop-append-le, take-append-le, length-drop}
use Rattle.flat_rows.specs.Rows.{AddsToLast, AreStarts, rows_at}

pub rows_length : {X : Type 0} (starts : List ℕ) (items : List X) → length (rows_at starts items) ≡ length starts
rows_length [] items = refl
rows_length (start ∷ starts) items = ap suc (rows_length starts items)

pub row_at : {X : Type 0} (starts : List ℕ) (items : List X) (i : ℕ) → i < length starts → get_or (rows_at starts items) i [] ≡ take (get_or starts (suc i) (length items) - get_or starts i 0) (drop (get_or starts i 0) items)
row_at [] items i below = absurd (omega arith)
row_at (start ∷ starts) items zero below = refl
row_at (start ∷ starts) items (suc i) below = row_at starts items i (omega arith)

start_below : (start : ℕ) (starts : List ℕ) (count : ℕ) → AreStarts (start ∷ starts) count → start ≤ count
start_below start [] count are = are.0
start_below start (next ∷ starts) count are = let rest : next ≤ count = start_below next starts count are.1 in let first : start ≤ next = are.0 in omega (arith, rest, first)

-- a row ends behind its beginning, and within the items
pub in_order : (starts : List ℕ) (count i : ℕ) → AreStarts starts count → i < length starts → (get_or starts i 0 ≤ get_or starts (suc i) count) × (get_or starts (suc i) count ≤ count)
in_order [] count i are below = absurd (omega arith)
in_order (start ∷ []) count zero are below = (are.0, omega arith)
in_order (start ∷ (next ∷ starts)) count zero are below = (are.0, start_below next starts count are.1)
in_order (start ∷ starts) count (suc i) are below = in_order starts count i are.1 (omega arith)

-- the same at the number of the next row
pub bounds_at : (starts : List ℕ) (count i end : ℕ) → AreStarts starts count → i < length starts → end ≡ get_or starts (i + 1) count → (get_or starts i 0 ≤ end) × (end ≤ count)
bounds_at starts count i end are below is =
    let next : i + 1 ≡ suc i = omega arith in
    let both = in_order starts count i are below in
    subst (λ (x : ℕ). (get_or starts i 0 ≤ x) × (x ≤ count)) (sym (is ∙ ap (λ (j : ℕ). get_or starts j count) next)) both

pub row_is : {X : Type 0} (starts : List ℕ) (items : List X) (i end : ℕ) → i < length starts → end ≡ get_or starts (i + 1) (length items) → get_or (rows_at starts items) i [] ≡ take (end - get_or starts i 0) (drop (get_or starts i 0) items)
row_is starts items i end below is =
    let next : i + 1 ≡ suc i = omega arith in
    row_at starts items i below ∙ ap (λ (x : ℕ). take (x - get_or starts i 0) (drop (get_or starts i 0) items)) (sym (is ∙ ap (λ (j : ℕ). get_or starts j (length items)) next))

-- a row more

pub starts_open : (starts : List ℕ) (count : ℕ) → AreStarts starts count → AreStarts (starts ++ count ∷ []) count
starts_open [] count are = (omega arith, tt)
starts_open (start ∷ []) count are = (are.0, (omega arith, tt))
starts_open (start ∷ (next ∷ starts)) count are = (are.0, starts_open (next ∷ starts) count are.1)

no_items : {X : Type 0} (items : List X) → take (length items - length items) (drop (length items) items) ≡ []
no_items items = let none : length items - length items ≡ 0 = omega arith in ap (λ (n : ℕ). take n (drop (length items) items)) none

pub rows_open : {X : Type 0} (starts : List ℕ) (items : List X) → rows_at (starts ++ length items ∷ []) items ≡ rows_at starts items ++ [] ∷ []
rows_open {X} [] items = ap (λ (row : List X). row ∷ []) (no_items items)
rows_open {X} (start ∷ []) items = ap (λ (row : List X). take (length items - start) (drop start items) ∷ row ∷ []) (no_items items)
rows_open {X} (start ∷ (next ∷ starts)) items = ap (λ (rows : List (List X)). take (next - start) (drop start items) ∷ rows) (rows_open (next ∷ starts) items)

-- items more

pub starts_more : (starts : List ℕ) (few many : ℕ) → few ≤ many → AreStarts starts few → AreStarts starts many
starts_more [] few many less are = tt
starts_more (start ∷ []) few many less are = ((let h : start ≤ few = are.0 in omega (arith, h, less)), tt)
starts_more (start ∷ (next ∷ starts)) few many less are = (are.0, starts_more (next ∷ starts) few many less are.1)

pub rows_add : {X : Type 0} (starts : List ℕ) (items more : List X) → 0 < length starts → AreStarts starts (length items) → AddsToLast (rows_at starts items) more (rows_at starts (items ++ more))
rows_add [] items more some are = absurd (omega arith)
rows_add {X} (start ∷ []) items more some are = (
  [],
  take (length items - start) (drop start items),
  refl,
  ap (λ (row : List X). row ∷ []) (take_rest (items ++ more) start ∙ drop-append-le start items more are.0 ∙ ap (λ (row : List X). row ++ more) (sym (take_rest items start))),
)
rows_add {X} (start ∷ (next ∷ starts)) items more some are =
    let (before, last, was, is) = rows_add (next ∷ starts) items more (omega arith) are.1 in
    let first : start ≤ length items = start_below start (next ∷ starts) (length items) are in
    let second : next ≤ length items = start_below next starts (length items) are.1 in
    let within : next - start ≤ length (drop start items) = omega (arith, length-drop start items, first, second) in
    let same : take (next - start) (drop start (items ++ more)) ≡ take (next - start) (drop start items) =
    ap (λ (rest : List X). take (next - start) rest) (drop-append-le start items more first) ∙ take-append-le (next - start) (drop start items) more within in (
      take (next - start) (drop start items) ∷ before,
      last,
      ap (λ (rows : List (List X)). take (next - start) (drop start items) ∷ rows) was,
      ap (λ (row : List X). row ∷ rows_at (next ∷ starts) (items ++ more)) same ∙ ap (λ (rows : List (List X)). take (next - start) (drop start items) ∷ rows) is,
    )
