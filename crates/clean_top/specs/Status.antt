-- How calls end, and what they write to the standard error (docs/COMMANDS.md, "Statuses" and "Lines on the standard error").
use Rattle.std.specs.Prelude.{ℕ, ◌-◌, List, [], ◌++◌, codes, decimal, slice_index_or}
use Rattle.clean_base.specs.declared.fault.Form.{Form}
use Rattle.clean_base.specs.declared.fault.Form.TheVariants.{Dynamic, Ret, Breakpoint, MethodConst}
use Rattle.clean_base.specs.declared.fault.InputFault.{InputFault}
use Rattle.clean_base.specs.declared.fault.InputFault.TheVariants.{TooLong, BadByte, OpenText, Syntax, Unsupported, TooMany, DoubleName, UnknownLocal, UnknownLabel, BadLine, DoubleComponent, LimitClasses, DoubleClass, Cycle, LimitMethods, LimitStmts, ComponentMissing, EntryMissing, LimitFields, BadTrace}
use Rattle.clean_top.specs.declared.status.Status.{Status}
use Rattle.clean_top.specs.declared.status.Status.TheVariants.{Clean, Leaks, Usage, Input, EdgeLimit, ReadFault, WriteFault, OutOfMemory}

abbrev pub code_of : Status → ℕ
code_of Clean = 0
code_of Leaks = 1
code_of Usage = 2
code_of (Input f) = 3
code_of (EdgeLimit found) = 3
code_of (ReadFault file) = 4
code_of (WriteFault written) = 5
code_of OutOfMemory = 6

-- the name of a file, by its place in the order of reading
abbrev pub file_word : List (List ℕ) → ℕ → List ℕ
file_word names file = slice_index_or names file []

-- what is wrong with a file, and where
abbrev pub place_text : List ℕ → List ℕ → ℕ → List ℕ
place_text name wrong at = name ++ codes ": " ++ wrong ++ decimal at

-- the word of a form that isn't supported
abbrev pub form_word : Form → List ℕ
form_word Dynamic = codes "dynamicinvoke"
form_word Ret = codes "ret"
form_word Breakpoint = codes "breakpoint"
form_word MethodConst = codes "methodhandle"

-- what is wrong with a class
abbrev pub class_fault_text : List ℕ → List ℕ → List ℕ
class_fault_text class wrong = codes "class " ++ class ++ wrong

-- what is said of a fault of the input
abbrev pub fault_text : List (List ℕ) → InputFault → List ℕ
fault_text names (TooLong file at) = place_text (file_word names file) (codes "longer than ") at ++ codes " bytes"
fault_text names (BadByte file at) = place_text (file_word names file) (codes "byte not allowed at ") at
fault_text names (OpenText file at) = place_text (file_word names file) (codes "text not ended at ") at
fault_text names (Syntax file at) = place_text (file_word names file) (codes "syntax at ") at
fault_text names (Unsupported file at form) = place_text (file_word names file) (form_word form ++ codes " not supported at ") at
fault_text names (TooMany file at) = place_text (file_word names file) (codes "too many names at ") at
fault_text names (DoubleName file at) = place_text (file_word names file) (codes "name given twice at ") at
fault_text names (UnknownLocal file at) = place_text (file_word names file) (codes "unknown local at ") at
fault_text names (UnknownLabel file at) = place_text (file_word names file) (codes "unknown label at ") at
fault_text names (BadLine file line) = place_text (file_word names file) (codes "line ") line ++ codes " not understood"
fault_text names (DoubleComponent file line) = place_text (file_word names file) (codes "component given twice in line ") line
fault_text names LimitClasses = codes "too many classes"
fault_text names (DoubleClass name) = class_fault_text name (codes " given twice")
fault_text names (Cycle name) = class_fault_text name (codes " is its own supertype")
fault_text names LimitMethods = codes "too many methods"
fault_text names LimitStmts = codes "too many statements"
fault_text names (ComponentMissing name) = codes "component " ++ name ++ codes " not found"
fault_text names EntryMissing = codes "entry method not found"
fault_text names LimitFields = codes "too many fields"
fault_text names (BadTrace file line) = place_text (file_word names file) (codes "trace line ") line ++ codes " not valid"

-- what is said of an end; of the whole output nothing is
abbrev pub status_text : List (List ℕ) → Status → List ℕ
status_text names Clean = []
status_text names Leaks = []
status_text names Usage = codes "usage: clean check, main, graph, serial, replay, solve or big, with its options and files"
status_text names (Input f) = fault_text names f
status_text names (EdgeLimit found) = codes "edge limit " ++ decimal (found - 1) ++ codes " passed, " ++ decimal found ++ codes " found"
status_text names (ReadFault file) = file_word names file ++ codes ": read fault"
status_text names (WriteFault written) = codes "write fault after " ++ decimal written ++ codes " bytes"
status_text names OutOfMemory = codes "out of memory"

abbrev pub line_text : List ℕ → List ℕ
line_text said = codes "clean: " ++ said ++ codes "\n"

-- the line of an end
abbrev pub error_text : List (List ℕ) → Status → List ℕ
error_text names Clean = []
error_text names Leaks = []
error_text names status = line_text (status_text names status)
