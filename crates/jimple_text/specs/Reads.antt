-- What a text is: the classes that it gives, or its first fault (docs/FORMATS.md, "Faults of class text").
use Rattle.std.specs.Prelude.{◌≡◌, ◌⊎◌, ℕ, suc, List, [], ◌∷◌, length, map, Some, None}
use Rattle.clean_base.specs.declared.fault.Form.{Form}
use Rattle.clean_base.specs.declared.fault.Form.TheVariants as forms
use Rattle.clean_base.specs.declared.fault.InputFault.{InputFault}
use Rattle.clean_base.specs.declared.fault.InputFault.TheVariants.{Syntax, Unsupported, TooMany, DoubleName, UnknownLocal, UnknownLabel}
use Rattle.jimple_lex.specs.declared.token.Token.{Token}
use Rattle.jimple_lex.specs.Lexed.{Lexed}
use Rattle.jimple_lex.specs.Faults.{IsLexical}
use Rattle.jimple_tree.specs.declared.tree.Class.{Class}
use Rattle.jimple_words.specs.declared.kind.Kind.{Kind}
use Rattle.jimple_words.specs.declared.kind.Kind.TheVariants as kinds
use Rattle.jimple_grammar.specs.declared.lexeme.Lexeme.{Lexeme}
use Rattle.jimple_grammar.specs.declared.raw.RawClass.{RawClass}
use Rattle.jimple_grammar.specs.Forms.{file}
use Rattle.jimple_grammar.specs.Forms as reasons
use Rattle.jimple_grammar.specs.Grammar.{Spells}
use Rattle.jimple_grammar.specs.Lexemes.{lexemes}
use Rattle.jimple_grammar.specs.Stops.{StopsAt}
use Rattle.jimple_names.specs.declared.stop.NameFault.{NameFault}
use Rattle.jimple_names.specs.declared.stop.NameFault.TheVariants as names
use Rattle.jimple_names.specs.Faults.{names_fault}
use Rattle.jimple_names.specs.Tree.{class_of}

-- The tokens spell a file, whose names break no rule and which has these classes.
pub record Gives (bytes : List ℕ) (tokens : List Token) (classes : List Class) : Type 0 where
  pub tree : List RawClass
  pub spelled : Spells file (lexemes bytes tokens) tree
  pub named : names_fault bytes tree ≡ None
  pub are : classes ≡ map (class_of bytes) tree

-- The bytes are the text of these classes.
abbrev pub Reads : List ℕ → List Class → Type 0
Reads bytes classes = (tokens : List Token) × Lexed 0 bytes tokens × Gives bytes tokens classes

-- where the first of the tokens left stands, or the end of the text
abbrev pub place : List ℕ → List Lexeme → ℕ
place bytes [] = length bytes
place bytes (t ∷ left) = t.from

-- the form of a word that isn't supported; without one it doesn't matter
abbrev pub form_of : Kind → Form
form_of kinds.Dynamicinvoke = forms.Dynamic
form_of kinds.Ret = forms.Ret
form_of _ = forms.Breakpoint

abbrev pub form_in_front : List Lexeme → Form
form_in_front [] = forms.Breakpoint
form_in_front (t ∷ left) = form_of t.kind

-- where the last of the tokens stands
abbrev pub last_place : List Lexeme → ℕ
last_place [] = 0
last_place (t ∷ []) = t.from
last_place (t ∷ u ∷ ts) = last_place (u ∷ ts)

module _ (bytes : List ℕ) (tokens : List Token) where
  -- the tokens stop to begin a file, with these left
  abbrev pub Stops : List Lexeme → ℕ → Type 0
  Stops left why = StopsAt file (lexemes bytes tokens) left why

  -- The first of the tokens left doesn't go on, and isn't refused.
  abbrev pub IsSyntax : ℕ → Type 0
  IsSyntax at = (left : List Lexeme) × Stops left 0 × (at ≡ place bytes left)

  -- It is refused as a word that isn't supported, or the word before it is.
  abbrev pub IsUnsupported : ℕ → Form → Type 0
  IsUnsupported at form = ((left : List Lexeme) × Stops left (suc reasons.unsupported) × (at ≡ place bytes left) × (form ≡ form_in_front left))
      ⊎ ((left : List Lexeme) × (stops : Stops left (suc reasons.word_before)) × (at ≡ last_place stops.front) × (form ≡ forms.MethodConst))

  -- It is refused as a name too many.
  abbrev pub IsTooMany : ℕ → Type 0
  IsTooMany at = (left : List Lexeme) × Stops left (suc reasons.too_many) × (at ≡ place bytes left)

  -- The tokens spell a file, in which this is the first name that breaks a rule.
  abbrev pub IsNameFault : NameFault → Type 0
  IsNameFault f = (tree : List RawClass) × Spells file (lexemes bytes tokens) tree × (names_fault bytes tree ≡ Some f)

-- the fault of the tokens of the file of that number
pub data Faults (bytes : List ℕ) (tokens : List Token) (number : ℕ) : InputFault → Type 0 where
  syntax : {at : ℕ} → IsSyntax bytes tokens at → Faults bytes tokens number (Syntax number at)
  unsupported : {at : ℕ} {form : Form} → IsUnsupported bytes tokens at form → Faults bytes tokens number (Unsupported number at form)
  too_many : {at : ℕ} → IsTooMany bytes tokens at → Faults bytes tokens number (TooMany number at)
  double_name : {at : ℕ} → IsNameFault bytes tokens (names.DoubleName at) → Faults bytes tokens number (DoubleName number at)
  unknown_local : {at : ℕ} → IsNameFault bytes tokens (names.UnknownLocal at) → Faults bytes tokens number (UnknownLocal number at)
  unknown_label : {at : ℕ} → IsNameFault bytes tokens (names.UnknownLabel at) → Faults bytes tokens number (UnknownLabel number at)

-- The first fault of the text: that of its bytes below the tokens, and else that of its tokens.
abbrev pub IsFault : ℕ → List ℕ → InputFault → Type 0
IsFault number bytes f = IsLexical number bytes f ⊎ ((tokens : List Token) × Lexed 0 bytes tokens × Faults bytes tokens number f)
