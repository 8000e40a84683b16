-- Where tokens stop to begin a form.
use Rattle.std.specs.Prelude.{◌≡◌, ℕ, suc, List, [], ◌∷◌, ◌++◌, length, Result, Ok, Err}
use Rattle.jimple_grammar.specs.declared.lexeme.Lexeme.{Lexeme}
use Rattle.jimple_grammar.specs.declared.cursor.ParseStop.{ParseStop}
use Rattle.jimple_grammar.specs.declared.cursor.ParseStop.TheVariants as stops
use Rattle.jimple_grammar.specs.Gives.{reason_number}
use Rattle.jimple_grammar.specs.Grammar.{Grammar, Spells, Begins, BeginsBy}

-- The front begins the form; with the first of the tokens left it doesn't. Where no token is left, the front isn't the form either.
abbrev pub Refused : {A : Type 0} → Grammar A → List Lexeme → List Lexeme → Type 0
Refused {A} g front [] = (v : A) → Spells g front v → ⊥
Refused g front (t ∷ left) = Begins g (front ++ t ∷ []) → ⊥

-- The first of the tokens left goes on, where the tokens that are refused for the reason count too.
abbrev pub Reaches : ℕ → {A : Type 0} → Grammar A → List Lexeme → List Lexeme → Type 0
Reaches k g front [] = ⊥
Reaches k g front (t ∷ left) = BeginsBy k g (front ++ t ∷ [])

-- the tokens left where they stop to begin the form; why is 0, or the successor of the reason for which the first of them is refused
pub record StopsAt {A : Type 0} (g : Grammar A) (ts left : List Lexeme) (why : ℕ) : Type 0 where
  pub front : List Lexeme
  pub parts : ts ≡ front ++ left
  pub begins : Begins g front
  pub refused : Refused g front left
  pub only : (k : ℕ) → Reaches (suc k) g front left → why ≡ suc k
  pub so : (k : ℕ) → why ≡ suc k → Reaches (suc k) g front left

-- Ok with the one value that the tokens spell; a fault where they stop to begin the form; and want of memory at any time.
abbrev pub Told : {A : Type 0} → Grammar A → List Lexeme → Result A ParseStop → Type 0
Told {A} g ts (Ok v) = record { found : Spells g ts v; only : (w : A) → Spells g ts w → w ≡ v }
Told g ts (Err stops.OutOfMemory) = Unit {0}
Told g ts (Err (stops.Syntax count)) = (left : List Lexeme) × StopsAt g ts left 0 × (count ≡ length left)
Told g ts (Err (stops.Refused why count)) = (left : List Lexeme) × StopsAt g ts left (suc (reason_number why)) × (count ≡ length left)

-- The tokens spell the form, or they stop in one place and for one reason.
pub record IsSettled {A : Type 0} (g : Grammar A) (ts : List Lexeme) : Type 0 where
  pub one : (l m : List Lexeme) (v w : ℕ) → StopsAt g ts l v → StopsAt g ts m w → (l ≡ m) × (v ≡ w)
  pub apart : (x : A) (l : List Lexeme) (v : ℕ) → Spells g ts x → StopsAt g ts l v → ⊥
