-- The files of a command, which are all read before a text is looked at (docs/COMMANDS.md, "Refusals").
use Rattle.std.specs.Prelude.{◌≡◌, ℕ, ◌+◌, ◌-◌, ◌<◌, ◌^◌, All, List, [], ◌∷◌, length, map, slice_index_or, Contains, Option, Some, None, IfSome, Result, Ok, Err}
use Rattle.clean_base.specs.Device.{Rose}
use Rattle.clean_base.specs.Limits.{class_room, list_room}
use Rattle.clean_base.specs.declared.fault.InputFault.{InputFault}
use Rattle.clean_base.specs.declared.fault.InputFault.TheVariants.{TooLong, BadByte, OpenText, Syntax, Unsupported, TooMany, DoubleName, UnknownLocal, UnknownLabel, BadLine, DoubleComponent, BadTrace}
use Rattle.clean_base.specs.declared.read.ReadStop.{ReadStop}
use Rattle.clean_base.specs.declared.read.ReadStop.TheVariants as stops
use Rattle.clean_stage.specs.Stage.{Stage, ◌>>=◌, done, test, before, fault, Comes}
use Rattle.clean_stage.specs.declared.halt.Refusal.{Refusal}
use Rattle.clean_stage.specs.declared.halt.Refusal.TheVariants.{Fault, EdgeLimit}
use Rattle.clean_stage.specs.declared.halt.Halt.{Halt}
use Rattle.clean_stage.specs.declared.halt.Halt.TheVariants.{Refused, OutOfMemory}
use Rattle.clean_top.specs.declared.task.Named.{Named}
use Rattle.clean_top.specs.declared.read.ReadHalt.{ReadHalt}
use Rattle.clean_top.specs.declared.read.ReadHalt.TheVariants as halts
use Rattle.clean_top.specs.declared.read.Room.{Room}
use Rattle.clean_top.specs.declared.read.Room.TheVariants.{Shared, Each}
use Rattle.clean_top.specs.declared.read.Text.{Text}
use Rattle.clean_top.specs.declared.read.Texts.{Texts}

abbrev pub room_bytes : Room → ℕ
room_bytes (Shared left) = left
room_bytes (Each room) = room

-- the room behind a file of so many bytes
abbrev pub room_after : Room → ℕ → Room
room_after (Shared left) used = Shared (left - used)
room_after (Each room) used = Each room

-- a file has no more bytes than its room
abbrev pub fits : ℕ → ℕ → List ℕ → Stage Text
fits file room bytes = test (room < length bytes) (Fault (TooLong file room)) (record { file = file; bytes = bytes })

-- the texts of files in order
abbrev pub fitting : Room → ℕ → List (List ℕ) → Stage (List Text)
fitting room file [] = done []
fitting room file (bytes ∷ others) = before (fits file (room_bytes room) bytes) (fitting (room_after room (length bytes)) (file + 1) others)

-- the text at a place
abbrev pub text_at : List Text → ℕ → Text
text_at texts i = slice_index_or texts i (record { file = 0; bytes = [] })

-- all files are read
abbrev pub texts_in : Named → (List ℕ → List ℕ) → Stage Texts
texts_in names files =
    fitting (Shared class_room) 0 (map files names.classes) >>= λ classes.
    fitting (Each list_room) (length names.classes) (map files names.lists) >>= λ lists.
    done (record { classes = classes; lists = lists })

-- a text of one of so many files, of fewer bytes than a number of 32 bits
pub record IsOf (files : ℕ) (text : Text) : Type 0 where
  pub below : text.file < files
  pub short : length text.bytes < 2 ^ 32

pub record AreOf (files : ℕ) (texts : Texts) : Type 0 where
  pub classes : All (IsOf files) texts.classes
  pub lists : All (IsOf files) texts.lists

-- the file that a fault names
abbrev pub file_of : InputFault → Option ℕ
file_of (TooLong file at) = Some file
file_of (BadByte file at) = Some file
file_of (OpenText file at) = Some file
file_of (Syntax file at) = Some file
file_of (Unsupported file at form) = Some file
file_of (TooMany file at) = Some file
file_of (DoubleName file at) = Some file
file_of (UnknownLocal file at) = Some file
file_of (UnknownLabel file at) = Some file
file_of (BadLine file line) = Some file
file_of (DoubleComponent file line) = Some file
file_of (BadTrace file line) = Some file
file_of _ = None

-- where it names a file, that is one of so many
abbrev pub IsAmong : ℕ → InputFault → Type 0
IsAmong files f = IfSome (file_of f) (λ file. file < files)

abbrev pub IsRefusalAmong : ℕ → Refusal → Type 0
IsRefusalAmong files (Fault f) = IsAmong files f
IsRefusalAmong files (EdgeLimit found) = Unit {0}

abbrev pub IsHaltAmong : ℕ → ReadHalt → Type 0
IsHaltAmong files (halts.Halt (Refused r)) = IsRefusalAmong files r
IsHaltAmong files (halts.Halt OutOfMemory) = Unit {0}
IsHaltAmong files (halts.ReadFault file) = Unit {0}

-- the shelf tells what these names hold
abbrev pub Tells : (List ℕ → Option (List ℕ)) → List (List ℕ) → (List ℕ → List ℕ) → Type 0
Tells holds names files = (name : List ℕ) → Contains names name → holds name ≡ Some (files name)

-- the shelf failed at the name of this file, where `first` is the first one's place
pub record IsFaultAt (before now : List ℕ → ℕ) (names : List (List ℕ)) (first file : ℕ) : Type 0 where
  pub place : ℕ
  pub below : place < length names
  pub is : file ≡ first + place
  pub rose : Rose (before (slice_index_or names place [])) (now (slice_index_or names place []))

abbrev pub no_memory : ReadHalt
no_memory = halts.Halt OutOfMemory

abbrev pub of_read : ReadStop → ℕ → ReadHalt
of_read stops.ReadFault file = halts.ReadFault file
of_read (stops.TooLong at) file = halts.Halt (fault (TooLong file at))
of_read stops.OutOfMemory file = no_memory

-- where the shelf tells, a piece of code that reads files comes to what this stage over their bytes does
abbrev pub ComesIn : {A : Type 0} → (List ℕ → Option (List ℕ)) → List (List ℕ) → ((List ℕ → List ℕ) → Stage A) → Result A Halt → Type 0
ComesIn holds names stage r = (files : List ℕ → List ℕ) → Tells holds names files → Comes (stage files) r

-- what a piece of code that reads these names comes to: where the shelf tells, this stage over their bytes, or the
-- shelf failed at one of them
abbrev pub IsReadSo : {A : Type 0} → (holds : List ℕ → Option (List ℕ)) (before now : List ℕ → ℕ) (names : List (List ℕ)) (first : ℕ) → ((List ℕ → List ℕ) → Stage A) → Result A ReadHalt → Type 0
IsReadSo holds before now names first stage (Ok a) = ComesIn holds names stage (Ok a)
IsReadSo holds before now names first stage (Err (halts.Halt h)) = ComesIn holds names stage (Err h)
IsReadSo holds before now names first stage (Err (halts.ReadFault file)) = IsFaultAt before now names first file

pub record Reads {A : Type 0} (holds : List ℕ → Option (List ℕ)) (before now : List ℕ → ℕ) (names : List (List ℕ)) (first : ℕ) (stage : (List ℕ → List ℕ) → Stage A) (r : Result A ReadHalt) : Type 0 where
  pub so : IsReadSo holds before now names first stage r
