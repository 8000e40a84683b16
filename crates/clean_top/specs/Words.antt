-- What the words of a command line ask for (docs/COMMANDS.md, "Words").
use Rattle.std.specs.Prelude.{◌≡◌, ◌<◌, ◌≤◌, ◌^◌, ◌-◌, ◌+◌, ℕ, List, [], ◌∷◌, ◌++◌, length}
use Rattle.command_line.specs.Check.{AsksCheck}
use Rattle.command_line.specs.Graph.{AsksGraph}
use Rattle.command_line.specs.Main.{AsksMain}
use Rattle.command_line.specs.Serial.{AsksSerial}
use Rattle.command_line.specs.Words.{Text}
use Rattle.command_line.specs.declared.input.Input.{Input}
use Rattle.command_line.specs.declared.input.Root.{Root}
use Rattle.command_line.specs.declared.input.Root.TheVariants as roots
use Rattle.command_line.specs.declared.serial.Serial.{Serial as SerialWords}
use Rattle.command_line.specs.declared.tuning.Tuning.{Tuning}
use Rattle.clean_top.specs.declared.task.Command.{Command}
use Rattle.clean_top.specs.declared.task.Named.{Named}
use Rattle.clean_top.specs.declared.task.Start.{Start}
use Rattle.clean_top.specs.declared.task.Start.TheVariants.{Method, Components}
use Rattle.clean_top.specs.declared.task.Task.{Task}
use Rattle.clean_top.specs.declared.task.Task.TheVariants.{Check, Main, Graph, Serial}

-- where a program begins
abbrev pub start_of : Root → Start
start_of (roots.Entry sig) = Method sig
start_of (roots.Components file) = Components

-- the lists of a program: that of its components, where it has one, and that of sources and sinks
abbrev pub lists_with : Root → Text → List Text
lists_with (roots.Entry sig) lists = lists ∷ []
lists_with (roots.Components file) lists = file ∷ lists ∷ []

abbrev pub named_of : Input → Named
named_of input = record { classes = input.classes; lists = lists_with input.root input.lists }

-- the words ask for this with these files
abbrev pub AsksFor : List Text → Task → Named → Type 0
AsksFor words Check names = AsksCheck words names.classes × (names.lists ≡ [])
AsksFor words Main names = (components : Text) × AsksMain words components × (names ≡ record { classes = []; lists = components ∷ [] })
AsksFor words (Graph start) names = (input : Input) × AsksGraph words input × (start ≡ start_of input.root) × (names ≡ named_of input)
AsksFor words (Serial start tuning) names =
    (serial : SerialWords) × AsksSerial words serial × (start ≡ start_of serial.input.root) × (tuning ≡ serial.tuning) × (names ≡ named_of serial.input)

-- the words ask for this command
abbrev pub Asks : List Text → Command → Type 0
Asks words command = AsksFor words command.task command.names

-- the words are of no form
abbrev pub IsUsage : List Text → Type 0
IsUsage words = (command : Command) → Asks words command → ⊥

-- the names of files in the order of reading
abbrev pub in_order : Named → List Text
in_order names = names.classes ++ names.lists

-- the place of the list of sources and sinks among the lists
abbrev pub list_place : Start → ℕ
list_place (Method sig) = 0
list_place Components = 1

-- how many lists a command names
abbrev pub lists_of : Task → ℕ
lists_of Check = 0
lists_of Main = 1
lists_of (Graph start) = list_place start + 1
lists_of (Serial start tuning) = list_place start + 1

-- the numbers are in their ranges
pub record IsTuned (tuning : Tuning) : Type 0 where
  pub k : (1 ≤ tuning.k) × (tuning.k ≤ 8)
  pub period : (1 ≤ tuning.period) × (tuning.period ≤ 1_000_000)
  pub max_edges : (1 ≤ tuning.max_edges) × (tuning.max_edges ≤ 2 ^ 64 - 2)

abbrev pub IsTunedTask : Task → Type 0
IsTunedTask (Serial start tuning) = IsTuned tuning
IsTunedTask _ = Unit {0}

-- a command names so many files and no more, and its numbers are in their ranges
pub record Fits (command : Command) : Type 0 where
  pub some : 0 < length (in_order command.names)
  pub classes : length command.names.classes ≤ 4096
  pub lists : length command.names.lists ≡ lists_of command.task
  pub tuned : IsTunedTask command.task

-- where words are of a form, these are their files
pub record AreNamed (words names : List Text) : Type 0 where
  pub are : (command : Command) → Asks words command → names ≡ in_order command.names
