-- Lists of sources and sinks (docs/FORMATS.md, "Signatures and lists").
use Rattle.std.specs.Prelude.{◌≡◌, ◌<◌, ℕ, Bool, true, false, not, List, [], ◌∷◌, ◌++◌, length, Contains, codes}
use Rattle.std.specs.List.{list_all}
use Rattle.clean_base.specs.declared.fault.InputFault.{InputFault}
use Rattle.clean_base.specs.declared.fault.InputFault.TheVariants.{BadLine}
use Rattle.clean_base.specs.declared.fault.Stop.{Stop}
use Rattle.clean_base.specs.declared.fault.Stop.TheVariants.{Fault, OutOfMemory}
use Rattle.list_lines.specs.Lines.{is_blank, list_lines, IsPassedOver}
use Rattle.list_lines.specs.Lists.{Give}
use Rattle.list_lines.specs.Lists as lists
use Rattle.jimple_tree.specs.declared.tree.Sig.{Sig}
use Rattle.source_sink.specs.declared.line.Line.{Line}
use Rattle.source_sink.specs.Signature.{is_white_space, Spells}

-- What a line says

-- a byte that may stand in a word
abbrev pub is_word_byte : ℕ → Bool
is_word_byte c = not (is_white_space c)

-- one byte or more, and no white space
pub record IsWord (word : List ℕ) : Type 0 where
  pub some : 0 < length word
  pub each : list_all is_word_byte word ≡ true

-- the text is one blank or more, this word, and the rest
pub record Begins (word text rest : List ℕ) : Type 0 where
  pub blanks : List ℕ
  pub some : 0 < length blanks
  pub blank : list_all is_blank blanks ≡ true
  pub is_word : IsWord word
  pub is : text ≡ blanks ++ (word ++ rest)

-- the text is these words, each behind one blank or more
abbrev pub AreWords : List (List ℕ) → List ℕ → Type 0
AreWords [] text = text ≡ []
AreWords (word ∷ words) text = (rest : List ℕ) × Begins word text rest × AreWords words rest

-- the mark of a source, of a sink, and of what is both
abbrev pub IsMark : (source sink : Bool) → List ℕ → Type 0
IsMark true false word = word ≡ codes "_SOURCE_"
IsMark false true word = word ≡ codes "_SINK_"
IsMark true true word = word ≡ codes "_BOTH_"
IsMark false false word = ⊥

abbrev pub arrow : List ℕ
arrow = codes "->"

-- the text is permissions, then an arrow, then the mark
pub record IsMarked (source sink : Bool) (text : List ℕ) : Type 0 where
  pub permissions : List (List ℕ)
  pub mark : List ℕ
  pub words : AreWords (permissions ++ arrow ∷ mark ∷ []) text
  pub none_is_arrow : Contains permissions arrow → ⊥
  pub says : IsMark source sink mark

-- the line is this one's signature and what is marked behind it
pub record Gives (line : List ℕ) (l : Line) : Type 0 where
  pub signature : List ℕ
  pub behind : List ℕ
  pub is : line ≡ signature ++ behind
  pub spells : Spells l.sig signature
  pub marked : IsMarked l.source l.sink behind

-- What a list says

-- a text is a list of these lines
abbrev pub IsList : List ℕ → List Line → Type 0
IsList bytes ls = Give Gives (list_lines bytes) ls

-- a line that says something, but isn't understood
pub record IsBad (file number : ℕ) (listed : List Line) (line : List ℕ) (fault : InputFault) : Type 0 where
  pub something : IsPassedOver line → ⊥
  pub strange : (l : Line) → Gives line l → ⊥
  pub is : fault ≡ BadLine file number

-- the first line with a fault
abbrev pub IsFirstFault : ℕ → List (List ℕ) → InputFault → Type 0
IsFirstFault file = lists.IsFirstFault (Give Gives) (IsBad file)

-- the one fault of lines, which are no list then
abbrev pub IsFault : ℕ → List (List ℕ) → InputFault → Type 0
IsFault file = lists.IsFault (Give Gives) (IsBad file)

abbrev pub Refused : ℕ → List ℕ → Stop → Type 0
Refused file bytes (Fault fault) = IsFault file (list_lines bytes) fault
Refused file bytes OutOfMemory = Unit {0}

-- some line is of a method of this name
abbrev pub Names : List Line → List ℕ → Type 0
Names lines name = (l : Line) × Contains lines l × (l.sig.name ≡ name)

-- some line of this signature does
pub record Says (lines : List Line) (sig : Sig) (does : Line → Bool) : Type 0 where
  pub line : Line
  pub listed : Contains lines line
  pub of : line.sig ≡ sig
  pub says : does line ≡ true
