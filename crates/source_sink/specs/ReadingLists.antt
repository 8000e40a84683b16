-- What the steps of reading a list, and of asking it, come to. Private functions cite this; public contracts cite `Lists` alone.
use Rattle.std.specs.Prelude.{◌≡◌, ◌⊎◌, ℕ, Bool, true, List, [], ◌∷◌, ◌++◌, nat_eq, Contains, if◌then◌else◌}
use mathlib.Core.Bool.{◌&&◌, ◌||◌}
use lib.Pointwise.{pointwise}
use Rattle.clean_base.specs.Lists.{At}
use Rattle.clean_base.specs.declared.fault.InputFault.TheVariants.{BadLine}
use Rattle.clean_base.specs.declared.fault.Stop.{Stop}
use Rattle.clean_base.specs.declared.fault.Stop.TheVariants.{Fault, OutOfMemory}
use Rattle.list_lines.specs.Lines.{IsPassedOver}
use Rattle.jimple_tree.specs.declared.tree.JType.{JType}
use Rattle.jimple_tree.specs.declared.tree.Sig.{Sig}
use Rattle.source_sink.specs.declared.cursor.Miss.{Miss}
use Rattle.source_sink.specs.declared.cursor.Miss.TheVariants.{Other, Memory}
use Rattle.source_sink.specs.declared.line.Line.{Line}
use Rattle.source_sink.specs.Lists.{Begins, AreWords, IsMark, Gives}

-- the text begins with this word, and with no other that words may follow
pub record IsNext (word text rest : List ℕ) : Type 0 where
  pub begins : Begins word text rest
  pub only : (other behind : List ℕ) (words : List (List ℕ)) → Begins other text behind → AreWords words behind → (other ≡ word) × (behind ≡ rest)

-- the text begins with no word that words may follow
abbrev pub HasNoWord : List ℕ → Type 0
HasNoWord text = (word rest : List ℕ) (words : List (List ℕ)) → Begins word text rest → AreWords words rest → ⊥

-- the text is a mark alone
pub record IsMarkAlone (source sink : Bool) (text : List ℕ) : Type 0 where
  pub mark : List ℕ
  pub words : AreWords (mark ∷ []) text
  pub says : IsMark source sink mark

-- what a miss says of a line
abbrev pub GivesNothing : Miss → List ℕ → Type 0
GivesNothing Other line = (l : Line) → Gives line l → ⊥
GivesNothing Memory line = Unit {0}

-- a line makes a list longer by what it gives, or leaves it as it is
abbrev pub Adds : List ℕ → List Line → List Line → Type 0
Adds line old new = (IsPassedOver line × (new ≡ old)) ⊎ ((l : Line) × Gives line l × (new ≡ old ++ l ∷ []))

abbrev pub RefusesLine : List ℕ → Miss → Type 0
RefusesLine line Other = (IsPassedOver line → ⊥) × ((l : Line) → Gives line l → ⊥)
RefusesLine line Memory = Unit {0}

-- how a miss at that line of the file stops the reading
abbrev pub stop_of : Miss → ℕ → ℕ → Stop
stop_of Other file line = Fault (BadLine file line)
stop_of Memory file line = OutOfMemory

abbrev pub same_type : JType → JType → Bool
same_type a b = pointwise nat_eq a.base b.base && nat_eq a.dims b.dims

-- whether a is b, with that class in place of its own
abbrev pub is_same : Sig → List ℕ → Sig → Bool
is_same a class b = pointwise nat_eq a.name b.name && pointwise nat_eq a.class class && same_type a.result b.result && pointwise same_type a.params b.params

-- the name by which a line is found
abbrev pub name_of : Line → List ℕ
name_of line = line.sig.name

-- some line at one of these places is of this signature and says so
pub record SaysAt (lines : List Line) (places : List ℕ) (sig : Sig) (does : Line → Bool) : Type 0 where
  pub place : ℕ
  pub line : Line
  pub among : Contains places place
  pub stands : At lines place line
  pub of : line.sig ≡ sig
  pub says : does line ≡ true

-- what was said before, and what a line adds where it is of the signature asked for
abbrev pub adds : Bool → Bool → Bool → Bool
adds before same says = if same then before || says else before
