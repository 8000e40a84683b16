-- The words of `main` (docs/COMMANDS.md, "Words").
use Rattle.std.specs.Prelude.{◌≡◌, List, [], ◌∷◌, Some, codes}
use Rattle.command_line.specs.Words.{Asks, Given, Text}

abbrev pub main_options : List Text
main_options = codes "components" ∷ []

-- `--components FILE`, and no other file
pub record IsMain (given : Given) (components : Text) : Type 0 where
  pub no_file : given.files ≡ []
  pub listed : given.value (codes "components") ≡ Some components

-- `main --components FILE`
abbrev pub AsksMain : List Text → Text → Type 0
AsksMain words components = Asks (codes "main") main_options words (λ given. IsMain given components)
