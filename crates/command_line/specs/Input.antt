-- A program as words name it (docs/COMMANDS.md, "Words").
use Rattle.std.specs.Prelude.{◌≡◌, List, [], ◌∷◌, Option, Some, None, codes}
use Rattle.source_sink.specs.Signature.{Spells}
use Rattle.command_line.specs.Words.{AreFiles, Given, Text}
use Rattle.command_line.specs.declared.input.Input.{Input}
use Rattle.command_line.specs.declared.input.Root.{Root}
use Rattle.command_line.specs.declared.input.Root.TheVariants.{Components, Entry}

abbrev pub input_options : List Text
input_options = codes "entry" ∷ codes "components" ∷ codes "lists" ∷ []

-- of a method's signature and a list of components exactly one is given
abbrev pub IsRoot : Option Text → Option Text → Root → Type 0
IsRoot (Some signature) None (Entry sig) = Spells sig signature
IsRoot None (Some file) (Components name) = name ≡ file
IsRoot _ _ _ = ⊥

-- `(--entry SIGNATURE | --components FILE) --lists FILE FILE..`
pub record IsInput (given : Given) (input : Input) : Type 0 where
  pub root : IsRoot (given.value (codes "entry")) (given.value (codes "components")) input.root
  pub lists : given.value (codes "lists") ≡ Some input.lists
  pub classes : input.classes ≡ given.files
  pub are_files : AreFiles input.classes
