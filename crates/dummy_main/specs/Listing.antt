-- Lists of components (docs/FORMATS.md, "Component lists").
use Rattle.std.specs.Prelude.{◌≡◌, ◌<◌, ◌≤◌, ◌==◌, ℕ, Bool, true, not, List, length, take, drop, map, codes, Contains}
use Rattle.std.specs.List.{list_all}
use Rattle.clean_base.specs.declared.fault.InputFault.{InputFault}
use Rattle.clean_base.specs.declared.fault.InputFault.TheVariants.{BadLine, DoubleComponent}
use Rattle.clean_base.specs.declared.fault.Stop.{Stop}
use Rattle.clean_base.specs.declared.fault.Stop.TheVariants.{Fault, OutOfMemory}
use Rattle.clean_base.specs.Lists.{IsDistinct}
use Rattle.list_lines.specs.Lines.{without_blanks_before, word_len, list_lines, IsPassedOver}
use Rattle.list_lines.specs.Lists.{Give}
use Rattle.list_lines.specs.Lists as lists
use Rattle.dummy_main.specs.declared.component.Component.{Component}
use Rattle.dummy_main.specs.declared.component.ComponentKind.{ComponentKind}
use Rattle.dummy_main.specs.declared.component.ComponentKind.TheVariants.{Activity, Service, Receiver, Provider}

-- the most components of a list
abbrev pub most_components : ℕ
most_components = 4096

-- What a line says

abbrev pub word_of : ComponentKind → List ℕ
word_of Activity = codes "activity"
word_of Service = codes "service"
word_of Receiver = codes "receiver"
word_of Provider = codes "provider"

-- any byte but a quote
abbrev pub is_class_byte : ℕ → Bool
is_class_byte c = not (c == 39)

-- the line is this component's: the word of its kind, blanks, and the name of its class
pub record Gives (line : List ℕ) (c : Component) : Type 0 where
  pub kind : take (word_len line) line ≡ word_of c.kind
  pub name : c.name ≡ without_blanks_before (drop (word_len line) line)
  pub some : 0 < length c.name
  pub plain : list_all is_class_byte c.name ≡ true

-- What a list says

abbrev pub name_of : Component → List ℕ
name_of c = c.name

-- the lines give these components, of different classes and not too many
pub record AreListed (lines : List (List ℕ)) (cs : List Component) : Type 0 where
  pub give : Give Gives lines cs
  pub distinct : IsDistinct (map name_of cs)
  pub few : length cs ≤ most_components

-- a text is a list of these components
abbrev pub IsList : List ℕ → List Component → Type 0
IsList bytes cs = AreListed (list_lines bytes) cs

-- why a line behind those of some components is refused: it isn't understood, a component is one too many, or a line
-- before it names the same class
pub data IsBad (cs : List Component) (line : List ℕ) : Type 0 where
  strange : (IsPassedOver line → ⊥) → ((c : Component) → Gives line c → ⊥) → IsBad cs line
  many : (c : Component) → Gives line c → length cs ≡ most_components → IsBad cs line

pub record IsDouble (cs : List Component) (line : List ℕ) : Type 0 where
  pub again : Component
  pub given : Gives line again
  pub few : length cs < most_components
  pub named : Contains (map name_of cs) again.name

pub data IsLineFault (file number : ℕ) (cs : List Component) (line : List ℕ) : InputFault → Type 0 where
  bad : IsBad cs line → IsLineFault file number cs line (BadLine file number)
  double : IsDouble cs line → IsLineFault file number cs line (DoubleComponent file number)

-- the first line with a fault
abbrev pub IsFirstFault : ℕ → List (List ℕ) → InputFault → Type 0
IsFirstFault file = lists.IsFirstFault AreListed (IsLineFault file)

-- the one fault of lines, which are no list then
abbrev pub IsFault : ℕ → List (List ℕ) → InputFault → Type 0
IsFault file = lists.IsFault AreListed (IsLineFault file)

abbrev pub Refused : ℕ → List ℕ → Stop → Type 0
Refused file bytes (Fault fault) = IsFault file (list_lines bytes) fault
Refused file bytes OutOfMemory = Unit {0}
