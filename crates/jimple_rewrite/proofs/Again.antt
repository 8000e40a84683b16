-- The canonical text of each class that a text gives reads as that class.
use Rattle.std.proofs.Common.{◌≡◌, ℕ, ◌+◌, ◌<◌, ◌^◌, List, [], ◌∷◌, ◌++◌, length, map, get_or, All, None, sym, ap, subst, refl, ◌∙◌, arith, append_assoc, append-nil, length-append}
use Rattle.jimple_lex.specs.Lexed.{Lexed}
use Rattle.jimple_lex.specs.declared.token.Token.{Token}
use Rattle.jimple_tree.specs.Canonical.{canonical}
use Rattle.jimple_tree.specs.WellFormed.{IsWellFormed}
use Rattle.jimple_tree.specs.declared.tree.Class.{Class}
use Rattle.jimple_grammar.specs.AsWritten.{file_as_written}
use Rattle.jimple_grammar.specs.Lexemes.{kind_of, between, lexeme, lexemes}
use Rattle.jimple_grammar.proofs.AsWrittenMembers.{file_same}
use Rattle.jimple_names.specs.Faults.{names_fault}
use Rattle.jimple_names.specs.Tree.{class_of}
use Rattle.jimple_text.specs.Reads.{Reads}
use Rattle.jimple_rewrite.proofs.Pieces.{Piece, blank, token, flatten, tokens_at, Fine, nothing}
use Rattle.jimple_rewrite.proofs.Classes.{file_reread}
use Rattle.jimple_rewrite.proofs.Given.{given_written}
use Rattle.jimple_rewrite.proofs.Lexing.{lexed, between_is}
use Rattle.jimple_rewrite.proofs.Reread.{IsReread, Are, Anything}

-- the tokens of a text in pieces are those of its pieces
tokens_are : (bytes front : List ℕ) (at : ℕ) (pieces : List Piece) → bytes ≡ front ++ flatten pieces → at ≡ length front → Are bytes (lexemes bytes (tokens_at at pieces)) pieces
tokens_are bytes front at [] e n = refl
tokens_are bytes front at (blank text ∷ more) e n =
    tokens_are bytes (front ++ text) (at + length text) more (e ∙ sym (append_assoc front text (flatten more))) (let k = length-append front text in omega (arith, n, k))
tokens_are bytes front at (token kind text ∷ more) e n =
    let one : Token = record { kind = kind; from = at; to = at + length text } in
    let same : between bytes at (at + length text) ≡ text = between_is bytes front text (flatten more) at e n in (
      lexeme bytes one,
      lexemes bytes (tokens_at (at + length text) more),
      refl,
      record { kind = ap (kind_of kind) same; text = same },
      tokens_are bytes (front ++ text) (at + length text) more (e ∙ sym (append_assoc front text (flatten more))) (let k = length-append front text in omega (arith, n, k)),
    )

-- a text that is read again as a file
read_again : (bytes : List ℕ) (classes : List Class) → IsReread bytes file_as_written Anything bytes (λ rs. (map (class_of bytes) rs ≡ classes) × (names_fault bytes rs ≡ None)) → Reads bytes classes
read_again bytes classes r =
    let fine : Fine r.pieces = subst Fine (append-nil r.pieces) (r.fine [] tt nothing) in
    let tree = r.read (lexemes bytes (tokens_at 0 r.pieces)) (tokens_are bytes [] 0 r.pieces (sym r.same) refl) in (
      tokens_at 0 r.pieces,
      subst (λ text. Lexed 0 text (tokens_at 0 r.pieces)) r.same (lexed 0 r.pieces fine),
      record {
        tree = tree.tree;
        spelled = (file_same.spells (lexemes bytes (tokens_at 0 r.pieces)) tree.tree).1 tree.spelled;
        named = tree.right.1;
        are = sym tree.right.0;
      },
    )

-- Each class that a text gives is read again from its canonical text, where each is well formed.
pub all_again : (bytes : List ℕ) → length bytes < 2 ^ 32 → ((classes : List Class) → Reads bytes classes → All IsWellFormed classes) → (classes : List Class) → Reads bytes classes → All (λ c. Reads (canonical c) (c ∷ [])) classes
all_again bytes long formed classes h i d less =
    let c = get_or classes i d in
    read_again (canonical c) (c ∷ []) (file_reread c (formed classes h i d less) (given_written bytes classes long h i d less))
