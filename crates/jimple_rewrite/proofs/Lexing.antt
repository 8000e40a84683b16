-- The tokens of a text in pieces.
use Rattle.std.proofs.Common.{◌≡◌, ℕ, suc, ◌+◌, ◌-◌, true, List, [], ◌∷◌, ◌++◌, length, take, drop, sym, ap, refl, ◌∙◌, subst, arith}
use Rattle.std.proofs.lemmas.List.{take_at, drop_at}
use Rattle.std.specs.List.{AllByRecursion}
use Rattle.jimple_lex.specs.Bytes.{is_blank}
use Rattle.jimple_lex.specs.Lexed.{Lexed, ends, blank, token}
use Rattle.jimple_lex.specs.declared.token.Token.{Token}
use Rattle.jimple_grammar.specs.Lexemes.{between}
use Rattle.jimple_rewrite.proofs.Pieces.{Piece, flatten, tokens_at, Fine, nothing, apart, stands}

past_blanks : (at : ℕ) (text rest : List ℕ) (later : List Token) → AllByRecursion (λ c. is_blank c ≡ true) text → Lexed (at + length text) rest later → Lexed at (text ++ rest) later
past_blanks at [] rest later b l = subst (λ k. Lexed k rest later) (let same : at + 0 ≡ at = omega arith in same) l
past_blanks at (c ∷ text) rest later b l =
    blank b.0 (past_blanks (suc at) text rest later b.1 (subst (λ k. Lexed k rest later) (let same : at + suc (length text) ≡ suc at + length text = omega arith in same) l))

pub lexed : (at : ℕ) (pieces : List Piece) → Fine pieces → Lexed at (flatten pieces) (tokens_at at pieces)
lexed at pieces nothing = ends
lexed at pieces (apart {text = text} {more = more} b f) = past_blanks at text (flatten more) (tokens_at (at + length text) more) b (lexed (at + length text) more f)
lexed at pieces (stands {kind = kind} {text = text} {more = more} t f) = token kind text (flatten more) refl refl t (lexed (at + length text) more f)

-- the bytes of a piece, where it stands
pub between_is : (bytes before text rest : List ℕ) (at : ℕ) → bytes ≡ before ++ (text ++ rest) → at ≡ length before → between bytes at (at + length text) ≡ text
between_is bytes before text rest at e n =
    let size : (at + length text) - at ≡ length text = omega arith in
    ap (λ (k : ℕ). take k (drop at bytes)) size
    ∙ ap (take (length text)) (ap (drop at) e ∙ drop_at before (text ++ rest) at (sym n))
    ∙ take_at text rest (length text) refl
