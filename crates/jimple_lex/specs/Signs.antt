-- Signs by their length. The helpers below `lex` cite this file, and no public clause does.
use Rattle.std.specs.Prelude.{ℕ, Bool, cond, ◌&&◌, ◌||◌, ◌==◌, codes}
use Rattle.std.specs.List.{list_any}

-- the signs of one byte
abbrev pub is_single : ℕ → Bool
is_single a = list_any (λ x. a == x) (codes "{}()[],;:.@=<>+-*/%&|^")

-- those of two
abbrev pub is_pair : ℕ → ℕ → Bool
is_pair a b = ((b == 61) && ((a == 58) || (a == 61) || (a == 33) || (a == 60) || (a == 62))) || ((a == 60) && (b == 60)) || ((a == 62) && (b == 62))

-- and the one of three
abbrev pub is_triple : ℕ → ℕ → ℕ → Bool
is_triple a b c = (a == 62) && (b == 62) && (c == 62)

-- the longest first
abbrev pub sign_length : ℕ → ℕ → ℕ → ℕ
sign_length a b c = cond (is_triple a b c) 3 (cond (is_pair a b) 2 (cond (is_single a) 1 0))
