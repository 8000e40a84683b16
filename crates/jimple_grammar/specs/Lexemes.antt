-- The tokens of a text as the grammar sees them.
use Rattle.std.specs.Prelude.{ℕ, ◌-◌, List, map, take, drop}
use Rattle.jimple_lex.specs.declared.token.Token.{Token}
use Rattle.jimple_lex.specs.declared.token.TokenKind.{TokenKind}
use Rattle.jimple_lex.specs.declared.token.TokenKind.TheVariants as tokens
use Rattle.jimple_words.specs.declared.kind.Kind.{Kind}
use Rattle.jimple_words.specs.declared.kind.Kind.TheVariants as kinds
use Rattle.jimple_words.specs.Kinds.{kind_in, keywords, signs, word_kind}
use Rattle.jimple_grammar.specs.declared.lexeme.Lexeme.{Lexeme}

-- the kind of a token of the lexer's kind and of that text
abbrev pub kind_of : TokenKind → List ℕ → Kind
kind_of tokens.Word text = word_kind text
kind_of tokens.Keyword text = kind_in keywords text
kind_of tokens.Number text = kinds.Number
kind_of tokens.Text text = kinds.Text
kind_of tokens.Sign text = kind_in signs text

-- the bytes from one place to another
abbrev pub between : List ℕ → ℕ → ℕ → List ℕ
between bytes from to = take (to - from) (drop from bytes)

abbrev pub lexeme : List ℕ → Token → Lexeme
lexeme bytes t = record { kind = kind_of t.kind (between bytes t.from t.to); from = t.from; to = t.to }

abbrev pub lexemes : List ℕ → List Token → List Lexeme
lexemes bytes ts = map (lexeme bytes) ts
