-- What the lines of a list give, and the first one with a fault.
use Rattle.std.specs.Prelude.{◌≡◌, ◌⊎◌, ◌+◌, ℕ, List, [], ◌∷◌, ◌++◌, length}
use Rattle.clean_base.specs.declared.fault.InputFault.{InputFault}
use Rattle.list_lines.specs.Lines.{IsPassedOver}

-- the lines give these items, in their order
abbrev pub Give : {X : Type 0} → (List ℕ → X → Type 0) → List (List ℕ) → List X → Type 0
Give Gives [] items = items ≡ []
Give {X} Gives (line ∷ lines) items =
    (IsPassedOver line × Give Gives lines items) ⊎ ((item : X) × (rest : List X) × Gives line item × Give Gives lines rest × (items ≡ item ∷ rest))

-- the first line with a fault: those before it are a list of items, and behind these it has the fault, as the line of its
-- number, counted from 1
pub record IsFirstFault {X : Type 0} (Are : List (List ℕ) → List X → Type 0) (HasFault : ℕ → List X → List ℕ → InputFault → Type 0)
    (lines : List (List ℕ)) (fault : InputFault) : Type 0 where
  pub before : List (List ℕ)
  pub line : List ℕ
  pub behind : List (List ℕ)
  pub parts : lines ≡ before ++ line ∷ behind
  pub listed : List X
  pub are : Are before listed
  pub is : HasFault (length before + 1) listed line fault

-- the one fault of lines, which are no list then
pub record IsFault {X : Type 0} (Are : List (List ℕ) → List X → Type 0) (HasFault : ℕ → List X → List ℕ → InputFault → Type 0)
    (lines : List (List ℕ)) (fault : InputFault) : Type 0 where
  pub first : IsFirstFault Are HasFault lines fault
  pub only : (other : InputFault) → IsFirstFault Are HasFault lines other → other ≡ fault
  pub no_list : (items : List X) → Are lines items → ⊥
