-- Schedules of events (docs/FORMATS.md, "Schedules").
use Rattle.std.specs.Prelude.{◌≡◌, ◌<◌, ◌^◌, ℕ, List, [], ◌∷◌, ◌++◌, codes}
use Rattle.std.specs.Str.Parse.{IsNumeral, digits_value}
use Rattle.clean_base.specs.declared.fault.InputFault.{InputFault}
use Rattle.clean_base.specs.declared.fault.InputFault.TheVariants.{BadLine}
use Rattle.clean_base.specs.declared.fault.Stop.{Stop}
use Rattle.clean_base.specs.declared.fault.Stop.TheVariants.{Fault, OutOfMemory}
use Rattle.list_lines.specs.Lines.{list_lines, IsPassedOver}
use Rattle.list_lines.specs.Lists.{Give}
use Rattle.list_lines.specs.Lists as lists
use Rattle.source_sink.specs.Signature.{Spells}
use Rattle.event_schedule.specs.declared.order.Order.{Order}
use Rattle.event_schedule.specs.declared.order.Order.TheVariants.{Take, Commit, Back, Retire, Sweep}

-- What a line orders

-- nothing stands behind a 0 in front
abbrev pub IsShort : List ℕ → Type 0
IsShort [] = Unit {0}
IsShort (digit ∷ digits) = digit ≡ 48 → digits ≡ []

-- decimal digits that write n, which fits so many bits
pub record Writes (bits : ℕ) (text : List ℕ) (n : ℕ) : Type 0 where
  pub numeral : IsNumeral 10 text
  pub short : IsShort text
  pub value : n ≡ digits_value 10 text
  pub fits : n < 2 ^ bits

-- the text is a worker and a place, with one space between them
pub record Sets (text : List ℕ) (worker place : ℕ) : Type 0 where
  pub first : List ℕ
  pub second : List ℕ
  pub is : text ≡ first ++ (codes " " ++ second)
  pub worker_is : Writes 32 first worker
  pub place_is : Writes 64 second place

-- the line is this word, and behind it a text that means so
pub record Behind (word : List ℕ) (Means : List ℕ → Type 0) (line : List ℕ) : Type 0 where
  pub text : List ℕ
  pub is : line ≡ word ++ text
  pub means : Means text

abbrev pub Gives : List ℕ → Order → Type 0
Gives line (Take worker place) = Behind (codes "take ") (λ text. Sets text worker place) line
Gives line (Commit worker) = Behind (codes "commit ") (λ text. Writes 32 text worker) line
Gives line (Back worker) = Behind (codes "back ") (λ text. Writes 32 text worker) line
Gives line (Retire sig) = Behind (codes "retire ") (Spells sig) line
Gives line Sweep = line ≡ codes "sweep"

-- What a schedule orders

-- a text is a schedule of these orders
abbrev pub IsList : List ℕ → List Order → Type 0
IsList bytes orders = Give Gives (list_lines bytes) orders

-- a line that says something, but isn't understood
pub record IsBad (file number : ℕ) (listed : List Order) (line : List ℕ) (fault : InputFault) : Type 0 where
  pub something : IsPassedOver line → ⊥
  pub strange : (order : Order) → Gives line order → ⊥
  pub is : fault ≡ BadLine file number

-- the first line with a fault
abbrev pub IsFirstFault : ℕ → List (List ℕ) → InputFault → Type 0
IsFirstFault file = lists.IsFirstFault (Give Gives) (IsBad file)

-- the one fault of lines, which are no list then
abbrev pub IsFault : ℕ → List (List ℕ) → InputFault → Type 0
IsFault file = lists.IsFault (Give Gives) (IsBad file)

abbrev pub Refused : ℕ → List ℕ → Stop → Type 0
Refused file bytes (Fault fault) = IsFault file (list_lines bytes) fault
Refused file bytes OutOfMemory = Unit {0}
