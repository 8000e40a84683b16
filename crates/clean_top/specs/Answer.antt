-- What a call may answer, over its command, its files and its sinks (docs/COMMANDS.md, "Answers and their causes").
use Rattle.std.specs.Prelude.{◌≡◌, ◌⊎◌, ℕ, ◌<◌, Bool, true, false, List, length, Option, Result, Ok, Err}
use Rattle.clean_base.specs.Device.{Rose, AppendsFirst}
use Rattle.clean_stage.specs.Stage.{Out, fault}
use Rattle.clean_stage.specs.declared.halt.Halt.{Halt}
use Rattle.clean_stage.specs.declared.halt.Halt.TheVariants.{Refused, OutOfMemory as NoMemory}
use Rattle.clean_stage.specs.declared.halt.Refusal.{Refusal}
use Rattle.clean_stage.specs.declared.halt.Refusal.TheVariants as refusals
use Rattle.clean_top.specs.Meaning.{means}
use Rattle.clean_top.specs.Reading.{ComesIn, IsFaultAt, IsAmong, Tells}
use Rattle.clean_top.specs.Status.{error_text}
use Rattle.clean_top.specs.Words.{in_order}
use Rattle.clean_top.specs.declared.output.Output.{Output}
use Rattle.clean_top.specs.declared.read.ReadHalt.{ReadHalt}
use Rattle.clean_top.specs.declared.read.ReadHalt.TheVariants as halts
use Rattle.clean_top.specs.declared.status.Status.{Status}
use Rattle.clean_top.specs.declared.status.Status.TheVariants.{Clean, Leaks, Usage, Input, EdgeLimit, ReadFault, WriteFault, OutOfMemory}
use Rattle.clean_top.specs.declared.task.Command.{Command}

-- what a call does to its files and to its output
pub record Run : Type 0 where
  -- the bytes of each name, where the shelf tells them
  pub holds : List ℕ → Option (List ℕ)
  -- how often the shelf had failed at a name, and has now
  pub before : List ℕ → ℕ
  pub now : List ℕ → ℕ
  -- what the output had taken, and has now, where it tells
  pub old : Option (List ℕ)
  pub new : Option (List ℕ)
  -- how often the output had failed, and has now
  pub first : ℕ
  pub last : ℕ

-- a run from the ghost members of a shelf and a sink, and the values of both before and behind the call
abbrev pub run_of : {S K : Type 0} → (S → List ℕ → Option (List ℕ)) → (S → List ℕ → ℕ) → (K → Option (List ℕ)) → (K → ℕ) → S → S → K → K → Run
run_of holds failed taken faults shelf shelf_behind out out_behind = record {
  holds = holds shelf;
  before = failed shelf;
  now = failed shelf_behind;
  old = taken out;
  new = taken out_behind;
  first = faults out;
  last = faults out_behind;
}

-- the files that the command names, where the shelf tells them
abbrev pub Holds : Run → Command → (List ℕ → List ℕ) → Type 0
Holds run command files = Tells run.holds (in_order command.names) files

-- the command and its files mean this, and nothing else
abbrev pub IsMeant : Run → Command → Result Output Halt → Type 0
IsMeant run command r = ComesIn run.holds (in_order command.names) (means command) r

-- the output has taken so much of what is meant, and nothing else
pub record Wrote (run : Run) (command : Command) (o : Output) (n : ℕ) : Type 0 where
  pub meant : IsMeant run command (Ok o)
  pub taken : AppendsFirst run.old run.new n o.text

-- what each status says; the files that it names are files of the command
abbrev pub Says : Run → Command → Status → Type 0
Says run command Clean = (o : Output) × (o.leaky ≡ false) × Wrote run command o (length o.text)
Says run command Leaks = (o : Output) × (o.leaky ≡ true) × Wrote run command o (length o.text)
Says run command Usage = ⊥
Says run command (Input f) = (run.new ≡ run.old) × IsMeant run command (Err (fault f)) × IsAmong (length (in_order command.names)) f
Says run command (EdgeLimit found) = (run.new ≡ run.old) × IsMeant run command (Err (Refused (refusals.EdgeLimit found)))
Says run command (ReadFault file) = (run.new ≡ run.old) × IsFaultAt run.before run.now (in_order command.names) 0 file
Says run command (WriteFault written) = Rose run.first run.last × ((o : Output) × (written < length o.text) × Wrote run command o written)
Says run command OutOfMemory = run.new ≡ run.old

-- the status of a whole output
abbrev pub whole : Bool → Status
whole true = Leaks
whole false = Clean

abbrev pub IsReadFault : Status → Type 0
IsReadFault s = (file : ℕ) × (s ≡ ReadFault file)

abbrev pub IsWriteFault : Status → Type 0
IsWriteFault s = (written : ℕ) × (s ≡ WriteFault written)

-- no other answer comes where the command and its files mean this
abbrev pub Answers : Run → Result Output Refusal → Status → Type 0
Answers run (Ok o) s = ((s ≡ whole o.leaky) × AppendsFirst run.old run.new (length o.text) o.text) ⊎ IsReadFault s ⊎ IsWriteFault s ⊎ (s ≡ OutOfMemory)
Answers run (Err (refusals.Fault f)) s = (s ≡ Input f) ⊎ IsReadFault s ⊎ (s ≡ OutOfMemory)
Answers run (Err (refusals.EdgeLimit found)) s = (s ≡ EdgeLimit found) ⊎ IsReadFault s ⊎ (s ≡ OutOfMemory)

-- a call that was asked for this answers so
pub record Serves (run : Run) (command : Command) (s : Status) : Type 0 where
  pub said : Says run command s
  pub only : (files : List ℕ → List ℕ) → Holds run command files → (r : Result Output Refusal) → Out (means command files) r → Answers run r s

-- words of no form are refused, and the output stays as it is
abbrev pub IsRefused : Option (List ℕ) → Option (List ℕ) → Status → Type 0
IsRefused old new s = ((s ≡ Usage) ⊎ (s ≡ OutOfMemory)) × (new ≡ old)

-- what the writing of an output comes to
abbrev pub Writes : Option (List ℕ) → Option (List ℕ) → ℕ → ℕ → Output → Status → Type 0
Writes old new first last o (WriteFault written) = Rose first last × (written < length o.text) × AppendsFirst old new written o.text
Writes old new first last o s = (s ≡ whole o.leaky) × AppendsFirst old new (length o.text) o.text

-- the status without an output
abbrev pub halted : ReadHalt → Status
halted (halts.ReadFault file) = ReadFault file
halted (halts.Halt (Refused (refusals.Fault f))) = Input f
halted (halts.Halt (Refused (refusals.EdgeLimit found))) = EdgeLimit found
halted (halts.Halt NoMemory) = OutOfMemory

-- a sink has taken the text, or it failed after a part of it
abbrev pub Takes : Option (List ℕ) → Option (List ℕ) → ℕ → ℕ → List ℕ → Type 0
Takes old new first last text = AppendsFirst old new (length text) text ⊎ (Rose first last × ((n : ℕ) × (n < length text) × AppendsFirst old new n text))

-- the error sink has taken the line of the status, over the names of the files; of a whole output it takes none
abbrev pub Complains : List (List ℕ) → Option (List ℕ) → Option (List ℕ) → ℕ → ℕ → Status → Type 0
Complains names old new first last Clean = new ≡ old
Complains names old new first last Leaks = new ≡ old
Complains names old new first last s = Takes old new first last (error_text names s)

-- a status, or want of memory in place of one that left the output as it was
abbrev pub OrMemory : Status → Status → Type 0
OrMemory (Input f) s = (s ≡ Input f) ⊎ (s ≡ OutOfMemory)
OrMemory (ReadFault file) s = (s ≡ ReadFault file) ⊎ (s ≡ OutOfMemory)
OrMemory t s = s ≡ t
