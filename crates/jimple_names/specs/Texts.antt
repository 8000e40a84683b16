-- The names and types that tokens write. `bytes` are those of the text. Raw trees stand below.
use Rattle.std.specs.Prelude.{ℕ, Bool, not, ◌==◌, ◌&&◌, List, map}
use Rattle.std.specs.List.{filter}
use Rattle.std.specs.Str.{bytes_eq}
use Rattle.jimple_tree.specs.declared.tree.FieldSig.{FieldSig}
use Rattle.jimple_tree.specs.declared.tree.JType.{JType}
use Rattle.jimple_tree.specs.declared.tree.Sig.{Sig}
use Rattle.jimple_lex.specs.Bytes.{single_quote}
use Rattle.jimple_grammar.specs.Lexemes.{between}
use Rattle.jimple_grammar.specs.declared.lexeme.Lexeme.{Lexeme}
use Rattle.jimple_grammar.specs.declared.raw.RawFieldSig.{RawFieldSig}
use Rattle.jimple_grammar.specs.declared.raw.RawSig.{RawSig}
use Rattle.jimple_grammar.specs.declared.raw.RawType.{RawType}

-- the bytes of a token
abbrev pub text : List ℕ → Lexeme → List ℕ
text bytes t = between bytes t.from t.to

-- the name of a word: its segments without their quotes, joined by dots
abbrev pub unquoted : List ℕ → List ℕ
unquoted word = filter (λ c. not (c == single_quote)) word

abbrev pub name_of : List ℕ → Lexeme → List ℕ
name_of bytes t = unquoted (text bytes t)

abbrev pub type_of : List ℕ → RawType → JType
type_of bytes ty = record { base = name_of bytes ty.base; dims = ty.dims }

abbrev pub sig_of : List ℕ → RawSig → Sig
sig_of bytes s = record { class = name_of bytes s.class; result = type_of bytes s.result; name = name_of bytes s.name; params = map (type_of bytes) s.params }

abbrev pub field_sig_of : List ℕ → RawFieldSig → FieldSig
field_sig_of bytes s = record { class = name_of bytes s.class; ty = type_of bytes s.ty; name = name_of bytes s.name }

-- one and the same type
abbrev pub same_type : JType → JType → Bool
same_type a b = bytes_eq a.base b.base && (a.dims == b.dims)
