-- One list of many changes: what the others see of it.
use Rattle.std.proofs.Common.{Bool, true, false, IsTrue, ◌-◌, replicate, append_assoc, ◌≡◌, ◌≢◌, ℕ, ◌+◌, ◌<◌, ◌≤◌, List, [], ◌∷◌, ◌++◌, length, get_or, set, take, zero, suc, sym, ap, subst, ◌∙◌, refl, arith, inl, inr, ◌⊎◌}
use Rattle.std.proofs.lemmas.List.{length_push, replicate_more, length-map, map-set, get_or-map, get_or-set_same, get_or-set_other, get_or-take}
use Rattle.std.proofs.Math.Seq.{map-set_same}
use Rattle.std.proofs.lemmas.Bool.Decides.{eqb_tells}
use Rattle.std.specs.Prelude.{Contains}
use Rattle.std.proofs.lemmas.List.Elements.{Contains-get_or}
use Rattle.std.proofs.lemmas.List.Quantifiers.{all_pairs_push}
use Rattle.ifds_model.specs.State.{IsDistinct}
use Rattle.entry_tables.specs.Lists.{list_at, KeepsRoom, UsesRoomAt}
use Rattle.entry_tables.specs.Rows.{Row, lists_of, rooms_of}

-- a list without repeats stays so with one more item that it lacks
pub distinct_push : {X : Type 0} (xs : List X) (y : X) → IsDistinct xs → (Contains xs y → ⊥) → IsDistinct (xs ++ y ∷ [])
distinct_push xs y distinct lacks =
    all_pairs_push (λ a b. a ≢ b) xs y distinct (λ k d below same. lacks (subst (Contains xs) same (Contains-get_or xs k d below)))

pub same_number_or_not : (a b : ℕ) → (a ≡ b) ⊎ (a ≢ b)
same_number_or_not a b = elim (eqb_tells a b) [ inl same ↦ inl same.1 | inr other ↦ inr other.1 ]

module _ {T : Type 0} (rows : List (Row T)) (i : ℕ) (r new : Row T) (is : r ≡ get_or rows i r) (below : i < length (lists_of rows)) where
  within : i < length rows
  within = let same : length (lists_of rows) ≡ length rows = length-map rows (λ r. r.items) in omega arith

  pub lists_same : new.items ≡ r.items → lists_of (set rows i new) ≡ lists_of rows
  lists_same same = map-set_same (λ (r : Row T). r.items) rows i new r (same ∙ ap (λ (r : Row T). r.items) is)

  pub list_is : list_at (lists_of rows) i ≡ r.items
  list_is = get_or-map (λ (r : Row T). r.items) rows i r [] within ∙ ap (λ (r : Row T). r.items) (sym is)

  pub list_added : (x : T) → new.items ≡ r.items ++ x ∷ [] → lists_of (set rows i new) ≡ set (lists_of rows) i (list_at (lists_of rows) i ++ x ∷ [])
  list_added x added = map-set (λ (r : Row T). r.items) rows i new ∙ ap (set (lists_of rows) i) (added ∙ ap (λ (xs : List T). xs ++ x ∷ []) (sym list_is))

  rooms_are : rooms_of (set rows i new) ≡ set (rooms_of rows) i new.spare
  rooms_are = map-set (λ (r : Row T). r.spare) rows i new

  room_was : get_or (rooms_of rows) i 0 ≡ r.spare
  room_was = get_or-map (λ (r : Row T). r.spare) rows i r 0 within ∙ ap (λ (r : Row T). r.spare) (sym is)

  pub room_is : get_or (rooms_of (set rows i new)) i 0 ≡ new.spare
  room_is = ap (λ (xs : List ℕ). get_or xs i 0) rooms_are ∙ get_or-set_same (rooms_of rows) i new.spare 0 (let same : length (rooms_of rows) ≡ length rows = length-map rows (λ r. r.spare) in let here : i < length rows = within in omega arith)

  other_room : (k : ℕ) → k ≢ i → get_or (rooms_of rows) k 0 ≤ get_or (rooms_of (set rows i new)) k 0
  other_room k other = let same : get_or (rooms_of (set rows i new)) k 0 ≡ get_or (rooms_of rows) k 0 = ap (λ (xs : List ℕ). get_or xs k 0) rooms_are ∙ get_or-set_other (rooms_of rows) i k new.spare 0 other in omega arith

  pub room_used : r.spare ≤ new.spare + 1 → UsesRoomAt i (rooms_of rows) (rooms_of (set rows i new))
  room_used less = (let was : get_or (rooms_of rows) i 0 ≡ r.spare = room_was in let now : get_or (rooms_of (set rows i new)) i 0 ≡ new.spare = room_is in omega arith, other_room)

  pub room_kept : r.spare ≤ new.spare → KeepsRoom (rooms_of rows) (rooms_of (set rows i new))
  room_kept more k = elim (same_number_or_not k i) [
    | inl same ↦ subst (λ (n : ℕ). get_or (rooms_of rows) n 0 ≤ get_or (rooms_of (set rows i new)) n 0) (sym same) (let was : get_or (rooms_of rows) i 0 ≡ r.spare = room_was in let now : get_or (rooms_of (set rows i new)) i 0 ≡ new.spare = room_is in omega arith)
    | inr other ↦ other_room k other
  ]

-- a write among the first items
pub take_set : {Y : Type 0} (n : ℕ) (xs : List Y) (i : ℕ) (v : Y) → i < n → take n (set xs i v) ≡ set (take n xs) i v
take_set zero xs i v below = absurd (omega arith)
take_set (suc n) [] i v below = refl
take_set (suc n) (x ∷ xs) zero v below = refl
take_set {Y} (suc n) (x ∷ xs) (suc i) v below = ap (λ (l : List Y). x ∷ l) (take_set n xs i v (omega arith))

-- an entry is added to one of the first lists
pub added_within : {X : Type 0} (lists new : List (List X)) (n i : ℕ) (x : X) → i < n → new ≡ set lists i (list_at lists i ++ x ∷ []) → take n new ≡ set (take n lists) i (list_at (take n lists) i ++ x ∷ [])
added_within {X} lists new n i x below is =
    ap (take n) is ∙ take_set n lists i (list_at lists i ++ x ∷ []) below ∙ ap (λ (xs : List X). set (take n lists) i (xs ++ x ∷ [])) (sym (get_or-take n lists i [] below))

-- one more empty list
pub blank_more : {X : Type 0} (old mid new : List (List X)) → length old ≤ length mid → mid ≡ old ++ replicate (length mid - length old) [] → new ≡ mid ++ [] ∷ [] → new ≡ old ++ replicate (length new - length old) []
blank_more {X} old mid new longer front is =
    let one_more : length new ≡ length mid + 1 = ap length is ∙ length_push mid [] in
    let count : (length mid - length old) + 1 ≡ length new - length old = omega arith in
    is ∙ ap (λ (xs : List (List X)). xs ++ [] ∷ []) front ∙ append_assoc old (replicate (length mid - length old) []) ([] ∷ [])
    ∙ ap (λ (xs : List (List X)). old ++ xs) (replicate_more (length mid - length old) []) ∙ ap (λ (n : ℕ). old ++ replicate n []) count

-- the new list has its room, and the others keep theirs
pub room_more : (was now : List ℕ) (from n m room : ℕ) → KeepsRoom was now → m ≡ n + 1 → room ≤ get_or now n 0
    → ((k : ℕ) → from ≤ k → k < n → room ≤ get_or was k 0) → (k : ℕ) → from ≤ k → k < m → room ≤ get_or now k 0
room_more was now from n m room kept is last before k past below = elim (same_number_or_not k n) [
  | inl same ↦ subst (λ (i : ℕ). room ≤ get_or now i 0) (sym same) last
  | inr other ↦ omega (arith, kept k, before k past (omega arith))
]

-- and where it is added only if it lacks it
pub distinct_added : {X : Type 0} (old new : List X) (y : X) (r : Bool) → IsDistinct old → (IsTrue r → Contains old y → ⊥) → (IsTrue r → new ≡ old ++ y ∷ []) → (r ≡ false → new ≡ old) → IsDistinct new
distinct_added {X} old new y true distinct fresh added same = subst (λ (xs : List X). IsDistinct xs) (sym (added refl)) (distinct_push old y distinct (fresh refl))
distinct_added {X} old new y false distinct fresh added same = subst (λ (xs : List X). IsDistinct xs) (sym (same refl)) distinct
