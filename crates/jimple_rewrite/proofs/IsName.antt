-- The names that words have.
use Rattle.std.specs.Prelude.{◌≡◌, ℕ, true, List}
use Rattle.std.specs.List.{AllByRecursion}
use Rattle.jimple_lex.specs.Bytes.{is_quotable}
pub use Rattle.jimple_names.specs.Texts.{unquoted}

-- a word has the name: neither a quote nor a line feed is in it
abbrev pub IsName : List ℕ → Type 0
IsName name = AllByRecursion (λ c. is_quotable c ≡ true) name
