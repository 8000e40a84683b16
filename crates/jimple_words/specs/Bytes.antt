-- Kinds of bytes that words are made of.
use Rattle.std.specs.Prelude.{ℕ, Bool, ◌&&◌, ◌||◌, ◌==◌, nat_le}

abbrev pub is_digit : ℕ → Bool
is_digit c = nat_le 48 c && nat_le c 57

-- the 52 of ASCII
abbrev pub is_letter : ℕ → Bool
is_letter c = (nat_le 65 c && nat_le c 90) || (nat_le 97 c && nat_le c 122)

-- what a plain segment of a word begins with: a letter, `_`, `$`, `\` and what isn't ASCII
abbrev pub begins_plain : ℕ → Bool
begins_plain c = is_letter c || (c == 95) || (c == 36) || (c == 92) || nat_le 128 c

-- and what it goes on with: a digit and `#` too
abbrev pub is_plain : ℕ → Bool
is_plain c = begins_plain c || is_digit c || (c == 35)
