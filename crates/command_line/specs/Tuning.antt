-- The numbers of a command (docs/COMMANDS.md, "Words").
use Rattle.std.specs.Prelude.{◌≡◌, ◌≤◌, ◌^◌, ◌-◌, ℕ, List, [], ◌∷◌, length, Option, Some, None, codes}
use Rattle.std.specs.Str.Parse.{IsNumeral, digits_value}
use Rattle.command_line.specs.Words.{Given, Text}
use Rattle.command_line.specs.declared.tuning.Tuning.{Tuning}

abbrev pub tuning_options : List Text
tuning_options = codes "k" ∷ codes "period" ∷ codes "max-edges" ∷ []

-- one to twenty decimal digits that write n
pub record Writes (text : Text) (n : ℕ) : Type 0 where
  pub digits : IsNumeral 10 text
  pub not_long : length text ≤ 20
  pub value : n ≡ digits_value 10 text

-- a number from the lowest to the highest, or the default where none is given
abbrev pub IsNumber : ℕ → ℕ → ℕ → Option Text → ℕ → Type 0
IsNumber lowest highest default None n = n ≡ default
IsNumber lowest highest default (Some text) n = Writes text n × (lowest ≤ n) × (n ≤ highest)

-- `[--k N] [--period N] [--max-edges N]`
pub record IsTuning (given : Given) (tuning : Tuning) : Type 0 where
  pub k : IsNumber 1 8 5 (given.value (codes "k")) tuning.k
  pub period : IsNumber 1 1_000_000 256 (given.value (codes "period")) tuning.period
  pub max_edges : IsNumber 1 (2 ^ 64 - 2) (2 ^ 64 - 2) (given.value (codes "max-edges")) tuning.max_edges
