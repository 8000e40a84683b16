-- What may stand at the front of a text, as its first bytes show. The helpers below `lex` cite this file, and no public clause does.
use Rattle.std.specs.Prelude.{◌≡◌, ◌⊎◌, ℕ, Bool, true, false, cond, ◌||◌, ◌&&◌, ◌==◌, List, [], ◌∷◌, codes, Option, Some, None}
use Rattle.jimple_lex.specs.Bytes.{is_blank, begins_with, single_quote, double_quote, hash, minus}
use Rattle.jimple_words.specs.Bytes.{begins_plain, is_digit}
use Rattle.jimple_lex.specs.Forms.{IsWord, IsNumber, IsString, IsComment}
use Rattle.jimple_words.specs.Kinds.{is_keyword}
use Rattle.jimple_lex.specs.Tokens.{begins_comment, Longest, IsSign}
use Rattle.jimple_lex.specs.Faults.{opens}
use Rattle.jimple_lex.specs.declared.token.TokenKind.{TokenKind}
use Rattle.jimple_lex.specs.declared.token.TokenKind.TheVariants as kinds
use Rattle.clean_base.specs.declared.fault.InputFault.{InputFault}
use Rattle.clean_base.specs.declared.fault.InputFault.TheVariants.{BadByte, OpenText}
use Rattle.jimple_lex.specs.declared.front.Front.{Front}
use Rattle.jimple_lex.specs.declared.front.Front.TheVariants as fronts

abbrev pub begins_digit : List ℕ → Bool
begins_digit [] = false
begins_digit (c ∷ cs) = is_digit c

abbrev pub begins_initializer : List ℕ → Bool
begins_initializer whole = begins_with (codes "<init>") whole || begins_with (codes "<clinit>") whole

-- where neither a blank, nor a segment, nor a number without `-` begins: a string, a number with `-`, a comment, an initializer, or a sign at most
abbrev pub front_of_sign : ℕ → List ℕ → Front
front_of_sign c cs = cond (c == double_quote) fronts.Text (cond ((c == minus) && begins_digit cs) fronts.Number
    (cond (begins_comment (c ∷ cs)) fronts.Comment (cond (begins_initializer (c ∷ cs)) fronts.Word fronts.Sign)))

abbrev pub front : List ℕ → Front
front [] = fronts.Sign
front (c ∷ cs) = cond (is_blank c) fronts.Blank (cond (begins_plain c || (c == single_quote)) fronts.Word (cond (is_digit c || (c == hash)) fronts.Number (front_of_sign c cs)))

abbrev pub IsInitializer : List ℕ → List ℕ → Type 0
IsInitializer text rest = (text ≡ codes "<init>") ⊎ (text ≡ codes "<clinit>")

-- the form that stands where this may begin
abbrev pub FormOf : Front → List ℕ → List ℕ → Type 0
FormOf fronts.Blank text rest = (c : ℕ) × (text ≡ c ∷ []) × (is_blank c ≡ true)
FormOf fronts.Comment text rest = IsComment text rest
FormOf fronts.Word text rest = Longest IsWord text rest
FormOf fronts.Number text rest = Longest IsNumber text rest
FormOf fronts.Text text rest = IsString text
FormOf fronts.Sign text rest = IsSign text rest

-- the kind of token, or none for a blank and a comment
abbrev pub kind_of : Front → List ℕ → Option TokenKind
kind_of fronts.Blank text = None
kind_of fronts.Comment text = None
kind_of fronts.Word text = Some (cond (is_keyword text) kinds.Keyword kinds.Word)
kind_of fronts.Number text = Some kinds.Number
kind_of fronts.Text text = Some kinds.Text
kind_of fronts.Sign text = Some kinds.Sign

-- the fault of a text that goes on where nothing stands
pub data FaultAt (file : ℕ) (whole : List ℕ) (at : ℕ) : InputFault → Type 0 where
  no_begin : {named place : ℕ} → named ≡ file → place ≡ at → opens whole ≡ false → FaultAt file whole at (BadByte named place)
  no_end : {named place : ℕ} → named ≡ file → place ≡ at → opens whole ≡ true → FaultAt file whole at (OpenText named place)
