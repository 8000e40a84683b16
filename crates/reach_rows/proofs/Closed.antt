-- Rows of bits that grow along the steps of a graph until none does.
use Rattle.std.proofs.Common.{map, ◌≡◌, ◌<◌, ◌+◌, ◌/◌, ℕ, Bool, false, ◌||◌, List, [], ◌∷◌, ◌++◌, Contains, length, get_or, take, refl, sym, ap, ◌∙◌, subst, inl, inr, arith}
use Rattle.std.specs.List.{range_with_len}
use Rattle.std.proofs.lemmas.Bool.{or_parts}
use Rattle.std.proofs.lemmas.List.{take_more}
use Rattle.std.proofs.lemmas.List.Elements.{Contains-push_cases}
use Rattle.std.proofs.lemmas.List.FromFn.{get_or-map-range_with_len}
use Rattle.reach_rows.specs.Bits.{has_bit, HasBit, Grows, GainsFrom, HasRows, IsSound, AreClosed, IsClosed, IsShaped, IsOwn, IsOwnOnly, lists_of}
use Rattle.reach_rows.specs.Closure.{has, IsClosure}
use Rattle.reach_rows.specs.Graphs.{row, Steps, IsGraph}
use Rattle.reach_rows.specs.Reaches.{Reaches, here, on}
use Rattle.reach_rows.proofs.Paths.{steps_to}
use Rattle.reach_rows.proofs.Words.{column_within}

-- the row of a has those of one node more
pub row_more : (width a b i : ℕ) (nodes mid new : List ℕ) (grown added : Bool) → i < length nodes → b ≡ get_or nodes i 0 → Grows width mid new added
    → ((c : ℕ) → c / 64 < width → HasBit width mid b c → HasBit width new a c) → (grown ≡ false → HasRows width mid a (take i nodes)) → (grown || added) ≡ false → HasRows width new a (take (i + 1) nodes)
row_more width a b i nodes mid new grown added within is grows taken before none x c has column bit =
    let parts = or_parts grown added none in
    let same : new ≡ mid = grows.same parts.1 in
    let next : take (i + 1) nodes ≡ take i nodes ++ b ∷ [] = take_more nodes i 0 within ∙ ap (λ (n : ℕ). take i nodes ++ n ∷ []) (sym is) in
    let was : HasBit width mid x c = subst (λ (ws : List ℕ). HasBit width ws x c) same bit in
    elim (Contains-push_cases (take i nodes) b x (subst (λ (ns : List ℕ). Contains ns x) next has)) [
      | inl early ↦ subst (λ (ws : List ℕ). HasBit width ws a c) (sym same) (before parts.0 x c early column was)
      | inr last ↦ taken c column (subst (λ (n : ℕ). HasBit width mid n c) (sym last) was)
    ]

module _ (rows : List (List ℕ)) (graph : IsGraph rows) (width : ℕ) (bits : List ℕ) (shape : IsShaped (length rows) width bits) where
  -- what a row gains along a step is reached
  pub sound_more : (a b : ℕ) (old new : List ℕ) → Steps rows a b → GainsFrom width a b old new → IsSound rows width old → IsSound rows width new
  sound_more a b old new step gains sound x c row_in column_in bit = elim (gains x c (column_within (length rows) width bits c shape column_in) bit) [
    | inl was ↦ sound x c row_in column_in was
    | inr taken ↦
        let way : Reaches (Steps rows) a c = on step (sound b c (steps_to rows a b graph step) column_in taken.1) in
        subst (λ (n : ℕ). Reaches (Steps rows) n c) (sym taken.0) way
  ]

  -- a bit for each pair that is reached
  pub whole : (new : List ℕ) → IsOwn (length rows) width new → IsClosed rows width new → {a b : ℕ} → Reaches (Steps rows) a b → a < length rows → b < length rows → HasBit width new a b
  whole new own closed (here {a}) row_in column_in = own a row_in
  whole new own closed (on {a} {b} {c} step way) row_in column_in =
      let next = steps_to rows a b graph step in
      closed a row_in b c step (column_within (length rows) width bits c shape column_in) (whole new own closed way next column_in)

-- one row more
pub closed_more : (rows : List (List ℕ)) (width i a : ℕ) (order mid new : List ℕ) (grown added : Bool) → i < length order → a ≡ get_or order i 0 → (added ≡ false → new ≡ mid) → (added ≡ false → HasRows width new a (row rows a))
    → (grown ≡ false → AreClosed rows width mid (take i order)) → (grown || added) ≡ false → AreClosed rows width new (take (i + 1) order)
closed_more rows width i a order mid new grown added within is same own before none x has =
    let parts = or_parts grown added none in
    let next : take (i + 1) order ≡ take i order ++ a ∷ [] = take_more order i 0 within ∙ ap (λ (n : ℕ). take i order ++ n ∷ []) (sym is) in
    elim (Contains-push_cases (take i order) a x (subst (λ (ns : List ℕ). Contains ns x) next has)) [
      | inl early ↦ subst (λ (ws : List ℕ). HasRows width ws x (row rows x)) (sym (same parts.1)) (before parts.0 x early)
      | inr last ↦ subst (λ (n : ℕ). HasRows width new n (row rows n)) last (own parts.1)
    ]

-- the rows as lists
pub lists_has : (count width : ℕ) (bits : List ℕ) (a b : ℕ) → a < count → b < count → has (record { count = count; rows = lists_of count width bits }) a b ≡ has_bit width bits a b
unfolding lists_of
lists_has count width bits a b row_in column_in =
    ap (λ (bs : List Bool). get_or bs b false) (get_or-map-range_with_len (λ (n : ℕ). map (has_bit width bits n) (range_with_len 0 count)) 0 count a a [] row_in (omega arith))
    ∙ get_or-map-range_with_len (has_bit width bits a) 0 count b b false column_in (omega arith)

pub all_closed : (rows : List (List ℕ)) → IsGraph rows → (width : ℕ) (bits : List ℕ) → IsShaped (length rows) width bits → IsSound rows width bits → IsOwn (length rows) width bits → IsClosed rows width bits
    → IsClosure rows (record { count = length rows; rows = lists_of (length rows) width bits })
all_closed rows graph width bits shape sound own closed = record {
  count = refl;
  has = λ a b row_in column_in.
      let same = lists_has (length rows) width bits a b row_in column_in in (
        (λ bit. sound a b row_in column_in (sym same ∙ bit)),
        (λ way. same ∙ whole rows graph width bits shape bits own closed way row_in column_in),
      );
}

-- own bits alone are sound
pub own_sound : (rows : List (List ℕ)) (width : ℕ) (bits : List ℕ) → IsShaped (length rows) width bits → (new : List ℕ) → IsOwnOnly width new → IsSound rows width new
own_sound rows width bits shape new only a b row_in column_in bit =
    subst (λ (n : ℕ). Reaches (Steps rows) a n) (only a b (column_within (length rows) width bits b shape column_in) bit) here
