-- A text has no more tokens than bytes, and a body has fewer statements than its text has tokens.
use Rattle.std.proofs.Common.{◌≡◌, ℕ, suc, ◌^◌, ◌<◌, ◌≤◌, true, List, [], ◌∷◌, ◌++◌, length, map, refl, ap, ◌∙◌, arith}
use Rattle.std.proofs.lemmas.List.{length-append, length-map}
use Rattle.jimple_lex.specs.Forms.{IsSegment, plain, quoted, IsJoined, last, joined, IsWord, segments, initializer, class_initializer, IsNumber, unsigned, negative, named, named_negative, is_sign}
use Rattle.jimple_words.specs.Kinds.{signs}
use Rattle.jimple_lex.specs.Lexed.{Lexed, ends, blank, comment, token}
use Rattle.jimple_lex.specs.declared.token.Token.{Token}
use Rattle.jimple_lex.specs.declared.token.TokenKind.{TokenKind}
use Rattle.jimple_lex.specs.declared.token.TokenKind.TheVariants.{Word, Keyword, Number, Text, Sign}
use Rattle.jimple_grammar.specs.declared.lexeme.Lexeme.{Lexeme}
use Rattle.jimple_grammar.specs.declared.raw.RawBody.{RawBody}
use Rattle.jimple_grammar.specs.declared.raw.RawCode.{RawCode}
use Rattle.jimple_grammar.specs.declared.raw.RawItem.{RawItem}
use Rattle.jimple_grammar.specs.declared.raw.RawItem.TheVariants as items
use Rattle.jimple_grammar.specs.Fits.{BodyFits}
use Rattle.jimple_names.specs.Scope.{items_of, stmts_of, scope_of}
use Rattle.jimple_names.specs.Tree.{stmt_of, body_of}
use Rattle.jimple_rewrite.proofs.TokensOf.{Form, of_token}

-- Tokens

some_bytes : {A : Type 0} (text xs : List A) (x : A) → text ≡ x ∷ xs → 0 < length text
some_bytes text xs x e = let n = ap length e in omega (arith, n)

segment_some : (text : List ℕ) → IsSegment text → 0 < length text
segment_some text (plain c cs e b p) = some_bytes text cs c e
segment_some text (quoted name e q) = some_bytes text _ _ e

joined_some : (text : List ℕ) → IsJoined text → 0 < length text
joined_some text (last s) = segment_some text s
joined_some text (joined segment more e s j) =
    let some = segment_some segment s in
    let long = ap length e ∙ length-append segment (46 ∷ more) in
    omega (arith, some, long)

word_some : (t : List ℕ) → IsWord t → 0 < length t
word_some t (segments j) = joined_some t j
word_some t (initializer e) = some_bytes t _ _ e
word_some t (class_initializer e) = some_bytes t _ _ e

number_some : (t : List ℕ) → IsNumber t → 0 < length t
number_some t (unsigned d ds e i g) = some_bytes t _ _ e
number_some t (negative d ds e i g) = some_bytes t _ _ e
number_some t (named c cs e l) = some_bytes t _ _ e
number_some t (named_negative c cs e l) = some_bytes t _ _ e

sign_some : (t : List ℕ) → is_sign t ≡ true → 0 < length t
unfolding is_sign signs
sign_some [] e = absurd cc
sign_some (x ∷ xs) e = omega arith

form_some : (kind : TokenKind) (t : List ℕ) → Form kind t → 0 < length t
form_some Word t h = word_some t h
form_some Keyword t h = word_some t h
form_some Number t h = number_some t h
form_some Text t h = some_bytes t _ _ h.between_quotes
form_some Sign t h = sign_some t h

pub few_tokens : {at : ℕ} {whole : List ℕ} {ts : List Token} → Lexed at whole ts → length ts ≤ length whole
few_tokens ends = omega arith
few_tokens (blank b l) = let less = few_tokens l in omega (arith, less)
few_tokens (comment text rest parts to c l) = let less = few_tokens l in let sum = ap length parts ∙ length-append text rest in omega (arith, less, sum)
few_tokens (token kind text rest parts to i l) =
    let less = few_tokens l in
    let some = form_some kind text (of_token kind text rest i) in
    let sum = ap length parts ∙ length-append text rest in
    omega (arith, less, some, sum)

-- Statements

no_more : (is : List RawItem) → length (stmts_of is) ≤ length is
no_more [] = omega arith
no_more (items.Label t ∷ is) = let less = no_more is in omega (arith, less)
no_more (items.Stmt s ∷ is) = let less = no_more is in omega (arith, less)

behind_labels : (ts : List Lexeme) (is : List RawItem) → length (stmts_of (map items.Label ts ++ is)) ≡ length (stmts_of is)
behind_labels [] is = refl
behind_labels (t ∷ ts) is = behind_labels ts is

few_stmts_of : (c : RawCode) → length (stmts_of (items_of c)) ≤ suc (length c.rest)
few_stmts_of c =
    let same = behind_labels c.labels (items.Stmt c.front ∷ c.rest) in
    let less = no_more c.rest in
    omega (arith, same, less)

module _ (bytes : List ℕ) (P : Lexeme → Type 0) (n : ℕ) where
  pub body_few : n < 2 ^ 32 → (b : RawBody) → BodyFits P n b → length (body_of bytes b).stmts < 2 ^ 32
  body_few few b h =
      let same = length-map (stmts_of (items_of b.code)) (stmt_of bytes (scope_of bytes b)) in
      let less = few_stmts_of b.code in
      let within = h.code.few in
      omega (arith, same, less, within, few)
