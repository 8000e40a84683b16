-- Lines of words: a command's name, options with their values, and files (docs/COMMANDS.md, "Words").
use Rattle.std.specs.Prelude.{◌≡◌, ◌≢◌, ◌⊎◌, ◌≤◌, ℕ, List, [], ◌∷◌, ◌++◌, length, flat_map, Option, Some, None, codes, unwrap_or, option_map, find, bytes_eq, All, AllPairs}

abbrev pub Text : Type 0
Text = List ℕ

-- what is given before `--`: a file, or an option with its value, as two words or as one
pub data Piece : Type 0 where
  file : Text → Piece
  apart : Text → Text → Piece
  joined : Text → Text → Piece

-- `FILE`, `--option value` or `--option=value`
abbrev pub spelled : Piece → List Text
spelled (file name) = name ∷ []
spelled (apart option value) = (codes "--" ++ option) ∷ value ∷ []
spelled (joined option value) = (codes "--" ++ (option ++ (codes "=" ++ value))) ∷ []

-- the pieces, and the files after `--` where it stands
pub record Line : Type 0 where
  pub pieces : List Piece
  pub after : Option (List Text)

abbrev pub ending : Option (List Text) → List Text
ending None = []
ending (Some files) = codes "--" ∷ files

abbrev pub words_of : Line → List Text
words_of line = flat_map spelled line.pieces ++ ending line.after

-- a value or a file's name has a byte, and isn't `-`
abbrev pub IsGiven : Text → Type 0
IsGiven t = (t ≢ []) × (t ≢ codes "-")

-- as a word of its own it doesn't begin with `-` either
abbrev pub IsOwnWord : Text → Type 0
IsOwnWord [] = ⊥
IsOwnWord (c ∷ cs) = c ≢ 45

abbrev pub IsAmong : List Text → Text → Type 0
IsAmong [] t = ⊥
IsAmong (x ∷ xs) t = (x ≡ t) ⊎ IsAmong xs t

-- a piece that a command with these options takes
abbrev pub IsTaken : List Text → Piece → Type 0
IsTaken options (file name) = IsOwnWord name
IsTaken options (apart option value) = IsAmong options option × IsOwnWord value
IsTaken options (joined option value) = IsAmong options option × IsGiven value

abbrev pub file_of : Piece → List Text
file_of (file name) = name ∷ []
file_of _ = []

abbrev pub option_of : Piece → List (Text × Text)
option_of (file name) = []
option_of (apart option value) = (option, value) ∷ []
option_of (joined option value) = (option, value) ∷ []

-- the files, in order
abbrev pub files_of : Line → List Text
files_of line = flat_map file_of line.pieces ++ unwrap_or line.after []

-- the options, in order, each with its value
abbrev pub options_of : Line → List (Text × Text)
options_of line = flat_map option_of line.pieces

-- the value of an option, where the line gives it
abbrev pub value_of : Text → Line → Option Text
value_of option line = option_map (λ o. o.1) (find (λ o. bytes_eq o.0 option) (options_of line))

-- the words are a command's name and then this line, which a command with these options takes
pub record IsLine (name : Text) (options : List Text) (words : List Text) (line : Line) : Type 0 where
  pub words_are : words ≡ name ∷ words_of line
  pub pieces_taken : All (IsTaken options) line.pieces
  pub after_given : All IsGiven (unwrap_or line.after [])
  pub each_once : AllPairs (λ a b. a.0 ≢ b.0) (options_of line)

-- the value of each option that is given, and the files
pub record Given : Type 0 where
  pub value : Text → Option Text
  pub files : List Text

abbrev pub given_by : Line → Given
given_by line = record { value = λ option. value_of option line; files = files_of line }

-- the words give this to the command of that name with these options
pub record Gives (name : Text) (options : List Text) (words : List Text) (given : Given) : Type 0 where
  pub line : Line
  pub is_line : IsLine name options words line
  pub given_is : given ≡ given_by line

-- the words give to the command of that name what means this
pub record Asks (name : Text) (options : List Text) (words : List Text) (Means : Given → Type 0) : Type 0 where
  pub given : Given
  pub gives : Gives name options words given
  pub means : Means given

-- there are 1 to 4,096 files
pub record AreFiles (files : List Text) : Type 0 where
  pub some : 1 ≤ length files
  pub not_many : length files ≤ 4096

abbrev pub IsFirst : Text → List Text → Type 0
IsFirst name [] = ⊥
IsFirst name (word ∷ words) = word ≡ name

-- P is so of this, and of nothing else
pub record IsOnly {A : Type 0} (P : A → Type 0) (a : A) : Type 0 where
  pub is : P a
  pub only : (other : A) → P other → other ≡ a
