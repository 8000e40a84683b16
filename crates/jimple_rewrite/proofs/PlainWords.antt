-- Words of plain bytes alone, and words of a list, as tokens.
use Rattle.std.proofs.Common.{◌≡◌, inl, inr, ℕ, Bool, true, false, ◌&&◌, List, [], ◌∷◌, ap, refl, ◌∙◌}
use Rattle.std.specs.List.{list_all, list_any}
use Rattle.std.specs.Str.{bytes_eq}
use Rattle.std.proofs.lemmas.Bool.{or_cases, and_parts}
use Rattle.std.proofs.lemmas.Slice.Eq.{bytes_eq-Decides}
use Rattle.jimple_words.specs.Bytes.{begins_plain, is_plain}
use Rattle.jimple_lex.specs.Forms.{IsJoined, last, plain}
use Rattle.jimple_words.specs.Kinds.{is_keyword}
use Rattle.jimple_lex.specs.Tokens.{IsToken}
use Rattle.jimple_lex.specs.declared.token.TokenKind.TheVariants as kinds
use Rattle.jimple_lex.proofs.Parts.{Pass}
use Rattle.jimple_rewrite.proofs.After.{after_word}
use Rattle.jimple_rewrite.proofs.Words.{word_token, keyword_token}

pub pass_from : (test : ℕ → Bool) (bytes : List ℕ) → list_all test bytes ≡ true → Pass test bytes
pass_from test [] e = tt
pass_from test (c ∷ bytes) e = let p = and_parts (test c) (list_all test bytes) e in (p.0, pass_from test bytes p.1)

pub in_words : (test : List ℕ → Bool) (words : List (List ℕ)) (text : List ℕ) → list_all test words ≡ true → list_any (bytes_eq text) words ≡ true → test text ≡ true
in_words test [] text all any = absurd (let bad : false ≡ true = any in cc)
in_words test (word ∷ words) text all any =
    let each = and_parts (test word) (list_all test words) all in
    elim (or_cases (bytes_eq text word) (list_any (bytes_eq text) words) any) [
      | inl here ↦ ap test ((bytes_eq-Decides text word).0 here) ∙ each.0
      | inr later ↦ in_words test words text each.1 later
    ]

abbrev pub is_plain_word : List ℕ → Bool
is_plain_word [] = false
is_plain_word (c ∷ cs) = begins_plain c && list_all is_plain cs

pub plain_joined : (text : List ℕ) → is_plain_word text ≡ true → IsJoined text
plain_joined [] e = absurd (let bad : false ≡ true = e in cc)
plain_joined (c ∷ cs) e = let p = and_parts (begins_plain c) (list_all is_plain cs) e in last (plain c cs refl p.0 (pass_from is_plain cs p.1))

pub a_keyword : (text rest : List ℕ) → is_plain_word text ≡ true → is_keyword text ≡ true → after_word rest ≡ true → IsToken kinds.Keyword text rest
a_keyword text rest p k a = keyword_token text rest (plain_joined text p) k a

pub a_word : (text rest : List ℕ) → is_plain_word text ≡ true → is_keyword text ≡ false → after_word rest ≡ true → IsToken kinds.Word text rest
a_word text rest p k a = word_token text rest (plain_joined text p) k a
