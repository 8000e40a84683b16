-- The words of `check` (docs/COMMANDS.md, "Words").
use Rattle.std.specs.Prelude.{◌≡◌, List, [], codes}
use Rattle.command_line.specs.Words.{AreFiles, Asks, Given, Text}

-- `FILE..`
pub record IsCheck (given : Given) (files : List Text) : Type 0 where
  pub files_are : files ≡ given.files
  pub are_files : AreFiles files

-- `check FILE..`
abbrev pub AsksCheck : List Text → List Text → Type 0
AsksCheck words files = Asks (codes "check") [] words (λ given. IsCheck given files)
