-- Rows of bits in words of 64 bits, one row behind the other, and how they grow.
use Rattle.std.specs.Prelude.{map, ◌≡◌, ◌⊎◌, ◌<◌, ◌≤◌, ◌+◌, ◌*◌, ◌/◌, ◌%◌, ℕ, Bool, true, false, List, length, nat_eq, bit_or, slice_index, slice_set, Contains, IsTrue}
use Rattle.std.specs.Int.{bit_at}
use Rattle.std.specs.List.{sum_by, range_with_len}
use Rattle.reach_rows.specs.Graphs.{row, Steps}
use Rattle.reach_rows.specs.Reaches.{Reaches}

-- the bit of b in the row of a, where each row has so many words
unfoldable pub has_bit : ℕ → List ℕ → ℕ → ℕ → Bool
has_bit width bits a b = nat_eq (bit_at (slice_index bits (a * width + b / 64)) (b % 64)) 1

abbrev pub HasBit : ℕ → List ℕ → ℕ → ℕ → Type 0
HasBit width bits a b = IsTrue (has_bit width bits a b)

-- the word at one place takes in that at another
abbrev pub with_word : List ℕ → ℕ → ℕ → List ℕ
with_word bits at from = slice_set bits at (bit_or (slice_index bits at) (slice_index bits from))

-- it rises with each bit that is added
unfoldable pub total : List ℕ → ℕ
total bits = sum_by (λ (w : ℕ). w) bits

-- bits are added alone, and it is known whether any were
pub record Grows (width : ℕ) (old new : List ℕ) (grown : Bool) : Type 0 where
  pub kept : (a b : ℕ) → HasBit width old a b → HasBit width new a b
  pub more : grown ≡ true → total old < total new
  pub same : grown ≡ false → new ≡ old

-- the row of a gains at most what that of b has
abbrev pub GainsFrom : ℕ → ℕ → ℕ → List ℕ → List ℕ → Type 0
GainsFrom width a b old new = (x c : ℕ) → c / 64 < width → HasBit width new x c → HasBit width old x c ⊎ ((x ≡ a) × HasBit width old b c)

-- it has all that those rows have
abbrev pub HasRows : ℕ → List ℕ → ℕ → List ℕ → Type 0
HasRows width bits a nodes = (b c : ℕ) → Contains nodes b → c / 64 < width → HasBit width bits b c → HasBit width bits a c

-- each bit is a pair that is reached
abbrev pub IsSound : List (List ℕ) → ℕ → List ℕ → Type 0
IsSound rows width bits = (a b : ℕ) → a < length rows → b < length rows → HasBit width bits a b → Reaches (Steps rows) a b

-- each of these rows has those of the nodes in its node's row
abbrev pub AreClosed : List (List ℕ) → ℕ → List ℕ → List ℕ → Type 0
AreClosed rows width bits nodes = (a : ℕ) → Contains nodes a → HasRows width bits a (row rows a)

abbrev pub IsClosed : List (List ℕ) → ℕ → List ℕ → Type 0
IsClosed rows width bits = (a : ℕ) → a < length rows → HasRows width bits a (row rows a)

-- a word for each 64 nodes in each row
pub record IsShaped (count width : ℕ) (bits : List ℕ) : Type 0 where
  pub wide : count ≤ width * 64
  pub long : length bits ≡ count * width

-- each node's own bit, and no other
abbrev pub IsOwn : ℕ → ℕ → List ℕ → Type 0
IsOwn count width bits = (a : ℕ) → a < count → HasBit width bits a a

abbrev pub IsOwnOnly : ℕ → List ℕ → Type 0
IsOwnOnly width bits = (a b : ℕ) → b / 64 < width → HasBit width bits a b → a ≡ b

-- the rows as lists, with a bit for each node
unfoldable pub lists_of : ℕ → ℕ → List ℕ → List (List Bool)
lists_of count width bits = map (λ a. map (has_bit width bits a) (range_with_len 0 count)) (range_with_len 0 count)
