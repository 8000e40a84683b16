-- A text has classes or a first fault, and never both.
use Rattle.std.specs.Prelude.{◌≡◌, ℕ, List, length}
use Rattle.clean_base.specs.declared.fault.InputFault.{InputFault}
use Rattle.clean_base.specs.declared.fault.Stop.{Stop}
use Rattle.clean_base.specs.declared.fault.Stop.TheVariants.{Fault, OutOfMemory}
use Rattle.jimple_lex.specs.declared.token.Token.{Token}
use Rattle.jimple_tree.specs.declared.tree.Class.{Class}
use Rattle.clean_base.specs.declared.fault.InputFault.TheVariants.{DoubleName, UnknownLocal, UnknownLabel}
use Rattle.jimple_names.specs.declared.stop.NameFault.{NameFault}
use Rattle.jimple_names.specs.declared.stop.NameFault.TheVariants as names
use Rattle.jimple_names.specs.declared.stop.NameStop.{NameStop}
use Rattle.jimple_names.specs.declared.stop.NameStop.TheVariants as name_stops
use Rattle.jimple_grammar.specs.declared.lexeme.Lexeme.{Lexeme}
use Rattle.jimple_grammar.specs.Forms.{file}
use Rattle.jimple_grammar.specs.Lexemes.{lexemes}
use Rattle.jimple_grammar.specs.Stops.{StopsAt}
use Rattle.jimple_text.specs.Reads.{Gives, Reads, Faults, IsFault}

-- The text is that of these classes and of no others, and has no fault.
pub record IsRead (number : ℕ) (bytes : List ℕ) (classes : List Class) : Type 0 where
  pub reads : Reads bytes classes
  pub only : (others : List Class) → Reads bytes others → others ≡ classes
  pub no_fault : (f : InputFault) → IsFault number bytes f → ⊥

-- The text has this first fault and no other, and has no classes.
pub record IsRefused (number : ℕ) (bytes : List ℕ) (f : InputFault) : Type 0 where
  pub is : IsFault number bytes f
  pub only : (g : InputFault) → IsFault number bytes g → g ≡ f
  pub no_classes : (classes : List Class) → Reads bytes classes → ⊥

-- why there are no classes: the first fault of the text, or want of memory
abbrev pub Refused : ℕ → List ℕ → Stop → Type 0
Refused number bytes (Fault f) = IsRefused number bytes f
Refused number bytes OutOfMemory = Unit {0}

-- The same of the tokens of a text. The public contract doesn't cite this.
pub record AreGiven (number : ℕ) (bytes : List ℕ) (tokens : List Token) (classes : List Class) : Type 0 where
  pub gives : Gives bytes tokens classes
  pub only : (others : List Class) → Gives bytes tokens others → others ≡ classes
  pub no_fault : (f : InputFault) → Faults bytes tokens number f → ⊥

pub record AreRefused (number : ℕ) (bytes : List ℕ) (tokens : List Token) (f : InputFault) : Type 0 where
  pub is : Faults bytes tokens number f
  pub only : (g : InputFault) → Faults bytes tokens number g → g ≡ f
  pub no_classes : (classes : List Class) → Gives bytes tokens classes → ⊥

abbrev pub TokensRefused : ℕ → List ℕ → List Token → Stop → Type 0
TokensRefused number bytes tokens (Fault f) = AreRefused number bytes tokens f
TokensRefused number bytes tokens OutOfMemory = Unit {0}

-- a fault of names, in the file of that number
abbrev pub as_input : ℕ → NameFault → InputFault
as_input number (names.DoubleName at) = DoubleName number at
as_input number (names.UnknownLocal at) = UnknownLocal number at
as_input number (names.UnknownLabel at) = UnknownLabel number at

abbrev pub as_stop : ℕ → NameStop → Stop
as_stop number (name_stops.Fault f) = Fault (as_input number f)
as_stop number name_stops.OutOfMemory = OutOfMemory

-- so many tokens are left where they stop to begin a file
abbrev pub Stopped : List ℕ → List Token → ℕ → ℕ → Type 0
Stopped bytes tokens why count = (left : List Lexeme) × StopsAt file (lexemes bytes tokens) left why × (count ≡ length left)
