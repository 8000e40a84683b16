-- What contracts see of the devices in memory.
use Rattle.std.specs.Prelude.{◌≡◌, ◌⊎◌, ℕ, List, None, Contains}
use Rattle.clean_base.specs.Memory.{held_by}
use Rattle.clean_base.specs.declared.memory.MemFile.{MemFile}
use Rattle.clean_base.specs.declared.memory.MemShelf.{MemShelf}
use Rattle.clean_base.specs.declared.memory.MemSink.{MemSink}
use Rattle.clean_base.specs.declared.memory.NullSink.{NullSink}
use Rattle.clean_base.specs.declared.memory.SureShelf.{SureShelf}

-- its files
abbrev pub files_of : MemShelf → List MemFile
files_of s = s.files.items

-- the numbers of the calls that fail
abbrev pub fail_of : MemShelf → List ℕ
fail_of s = s.fail.items

-- how many calls it had
abbrev pub calls_of : MemShelf → ℕ
calls_of s = s.calls

-- how often it failed
abbrev pub faults_of : MemShelf → ℕ
faults_of s = s.faults

-- how many bytes it moves at most in a call
abbrev pub most_of : MemShelf → ℕ
most_of s = s.most

-- a call for the name, with which the shelf has come so far, fails: its number is one of those that do, or no file has the name
abbrev pub Fails : MemShelf → List ℕ → Type 0
Fails s name = Contains (fail_of s) (calls_of s) ⊎ (held_by (files_of s) name ≡ None)

abbrev pub sure_files_of : SureShelf → List MemFile
sure_files_of s = s.files.items

-- the bytes that a sink took
abbrev pub bytes_of : MemSink → List ℕ
bytes_of s = s.bytes.items

-- how many more it takes
abbrev pub room_of : MemSink → ℕ
room_of s = s.room

-- how often it failed
abbrev pub sink_faults_of : MemSink → ℕ
sink_faults_of s = s.faults

-- how many bytes it takes at most in a call
abbrev pub sink_most_of : MemSink → ℕ
sink_most_of s = s.most

-- how many bytes a sink took that keeps none
abbrev pub taken_of : NullSink → ℕ
taken_of s = s.taken
