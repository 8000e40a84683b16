-- The keywords, the words that mean something in some places, and the signs: the kind of each by its text (docs/FORMATS.md, "Tokens").
use Rattle.std.specs.Prelude.{List, [], ◌∷◌, ℕ, ◌+◌, ◌-◌, ◌*◌, Bool, nat_lt, nat_le, codes, length, take, drop, ◌==◌, if◌then◌else◌, Option, Some, None}
use mathlib.Core.Bool.{◌&&◌, ◌||◌}
use Rattle.std.specs.List.{list_all, list_any}
use Rattle.std.specs.Str.{bytes_eq}
use Rattle.jimple_words.specs.Bytes.{is_digit}
use Rattle.jimple_words.specs.declared.kind.Kind.{Kind}
use Rattle.jimple_words.specs.declared.kind.Kind.TheVariants as kinds

-- texts, each with the kind of a token of that text
abbrev pub Texts : Type 0
Texts = List (List ℕ × Kind)

-- the kind that stands beside the text; another text is just a word
abbrev pub kind_in : Texts → List ℕ → Kind
kind_in [] text = kinds.Word
kind_in (entry ∷ entries) text = if bytes_eq text entry.0 then entry.1 else kind_in entries text

-- whether the text stands in the table
abbrev pub is_in : Texts → List ℕ → Bool
is_in table text = list_any (λ entry. bytes_eq text entry.0) table

unfoldable pub keywords : Texts
keywords = (codes "abstract", kinds.Abstract)
    ∷ (codes "final", kinds.Final)
    ∷ (codes "native", kinds.Native)
    ∷ (codes "public", kinds.Public)
    ∷ (codes "protected", kinds.Protected)
    ∷ (codes "private", kinds.Private)
    ∷ (codes "static", kinds.Static)
    ∷ (codes "synchronized", kinds.Synchronized)
    ∷ (codes "transient", kinds.Transient)
    ∷ (codes "volatile", kinds.Volatile)
    ∷ (codes "strictfp", kinds.Strictfp)
    ∷ (codes "enum", kinds.Enum)
    ∷ (codes "annotation", kinds.Annotation)
    ∷ (codes "class", kinds.Class)
    ∷ (codes "interface", kinds.Interface)
    ∷ (codes "void", kinds.Void)
    ∷ (codes "boolean", kinds.Boolean)
    ∷ (codes "byte", kinds.Byte)
    ∷ (codes "short", kinds.Short)
    ∷ (codes "char", kinds.Char)
    ∷ (codes "int", kinds.Int)
    ∷ (codes "long", kinds.Long)
    ∷ (codes "float", kinds.Float)
    ∷ (codes "double", kinds.Double)
    ∷ (codes "null_type", kinds.NullType)
    ∷ (codes "unknown", kinds.Unknown)
    ∷ (codes "extends", kinds.Extends)
    ∷ (codes "implements", kinds.Implements)
    ∷ (codes "breakpoint", kinds.Breakpoint)
    ∷ (codes "case", kinds.Case)
    ∷ (codes "catch", kinds.Catch)
    ∷ (codes "cmp", kinds.Cmp)
    ∷ (codes "cmpg", kinds.Cmpg)
    ∷ (codes "cmpl", kinds.Cmpl)
    ∷ (codes "default", kinds.Default)
    ∷ (codes "entermonitor", kinds.Entermonitor)
    ∷ (codes "exitmonitor", kinds.Exitmonitor)
    ∷ (codes "from", kinds.From)
    ∷ (codes "goto", kinds.Goto)
    ∷ (codes "if", kinds.If)
    ∷ (codes "instanceof", kinds.Instanceof)
    ∷ (codes "interfaceinvoke", kinds.Interfaceinvoke)
    ∷ (codes "lengthof", kinds.Lengthof)
    ∷ (codes "lookupswitch", kinds.Lookupswitch)
    ∷ (codes "neg", kinds.Neg)
    ∷ (codes "new", kinds.New)
    ∷ (codes "newarray", kinds.Newarray)
    ∷ (codes "newmultiarray", kinds.Newmultiarray)
    ∷ (codes "nop", kinds.Nop)
    ∷ (codes "null", kinds.Null)
    ∷ (codes "ret", kinds.Ret)
    ∷ (codes "return", kinds.Return)
    ∷ (codes "specialinvoke", kinds.Specialinvoke)
    ∷ (codes "staticinvoke", kinds.Staticinvoke)
    ∷ (codes "dynamicinvoke", kinds.Dynamicinvoke)
    ∷ (codes "tableswitch", kinds.Tableswitch)
    ∷ (codes "throw", kinds.Throw)
    ∷ (codes "throws", kinds.Throws)
    ∷ (codes "to", kinds.To)
    ∷ (codes "virtualinvoke", kinds.Virtualinvoke)
    ∷ (codes "with", kinds.With)
    ∷ []

unfoldable pub signs : Texts
signs = (codes "{", kinds.OpenBrace)
    ∷ (codes "}", kinds.CloseBrace)
    ∷ (codes "(", kinds.OpenParen)
    ∷ (codes ")", kinds.CloseParen)
    ∷ (codes "[", kinds.OpenBracket)
    ∷ (codes "]", kinds.CloseBracket)
    ∷ (codes ",", kinds.Comma)
    ∷ (codes ";", kinds.Semicolon)
    ∷ (codes ":", kinds.Colon)
    ∷ (codes ":=", kinds.ColonEquals)
    ∷ (codes ".", kinds.Dot)
    ∷ (codes "@", kinds.At)
    ∷ (codes "=", kinds.Equals)
    ∷ (codes "==", kinds.EqualsEquals)
    ∷ (codes "!=", kinds.NotEquals)
    ∷ (codes "<", kinds.Less)
    ∷ (codes "<=", kinds.LessEquals)
    ∷ (codes ">", kinds.Greater)
    ∷ (codes ">=", kinds.GreaterEquals)
    ∷ (codes "<<", kinds.ShiftLeft)
    ∷ (codes ">>", kinds.ShiftRight)
    ∷ (codes ">>>", kinds.ShiftRightUnsigned)
    ∷ (codes "+", kinds.Plus)
    ∷ (codes "-", kinds.Minus)
    ∷ (codes "*", kinds.Star)
    ∷ (codes "/", kinds.Slash)
    ∷ (codes "%", kinds.Percent)
    ∷ (codes "&", kinds.Ampersand)
    ∷ (codes "|", kinds.Bar)
    ∷ (codes "^", kinds.Caret)
    ∷ []

-- words that are modifiers only where a word follows
abbrev pub further_modifiers : Texts
further_modifiers = (codes "synthetic", kinds.Further)
    ∷ (codes "constructor", kinds.Further)
    ∷ (codes "declared_synchronized", kinds.Further)
    ∷ (codes "bridge", kinds.Further)
    ∷ (codes "varargs", kinds.Further)
    ∷ []

-- words that aren't keywords and mean something of their own in some places
unfoldable pub further : Texts
further = (codes "this", kinds.This)
    ∷ (codes "caughtexception", kinds.Caughtexception)
    ∷ (codes "methodhandle", kinds.Handle)
    ∷ (codes "methodtype", kinds.Handle)
    ∷ further_modifiers

unfoldable pub is_keyword : List ℕ → Bool
is_keyword text = is_in keywords text

unfoldable pub is_further_modifier : List ℕ → Bool
is_further_modifier text = is_in further_modifiers text

-- the words that no segment of a name is without quotes
abbrev pub is_reserved : List ℕ → Bool
is_reserved text = is_keyword text || is_further_modifier text

-- the number that decimal digits write, behind what stands before them
abbrev pub read_digits : ℕ → List ℕ → ℕ
read_digits before [] = before
read_digits before (digit ∷ digits) = read_digits (before * 10 + (digit - 48)) digits

-- one or more decimal digits
abbrev pub is_decimal : List ℕ → Bool
is_decimal digits = nat_lt 0 (length digits) && list_all is_digit digits

-- The word `parameter`, which has 9 bytes, with decimal digits behind it.
abbrev pub names_parameter : List ℕ → Bool
names_parameter text = bytes_eq (take 9 text) (codes "parameter") && is_decimal (drop 9 text)

-- the number that the digits write, where it is that of a parameter: at most 254
abbrev pub parameter_number : List ℕ → Option ℕ
parameter_number digits = if nat_le (read_digits 0 digits) 254 then Some (read_digits 0 digits) else None

-- by the number that the digits write, however many they are: that of a parameter is at most 254
abbrev pub parameter_kind : List ℕ → Kind
parameter_kind digits = if nat_le (read_digits 0 digits) 254 then kinds.Parameter else kinds.HighParameter

-- a word that is no keyword
abbrev pub word_kind : List ℕ → Kind
word_kind text = if names_parameter text then parameter_kind (drop 9 text) else kind_in further text

-- the entries whose text has so many bytes
abbrev pub of_length : ℕ → Texts → Texts
of_length n [] = []
of_length n (entry ∷ entries) = if length entry.0 == n then entry ∷ of_length n entries else of_length n entries
