-- Words and keywords end where the text behind them says so.
use Rattle.std.proofs.Common.{◌≡◌, inl, inr, ℕ, ◌≤◌, Bool, true, false, not, ◌&&◌, ◌==◌, List, [], ◌∷◌, ◌++◌, length, sym, ap, subst, refl, ◌∙◌, arith, append_assoc, length-append, codes}
use Rattle.std.specs.List.{list_any, list_all}
use Rattle.std.proofs.lemmas.Bool.{or_cases, and_parts, eqb-true, not-true}
use Rattle.jimple_lex.specs.Bytes.{begins_with, dot}
use Rattle.jimple_words.specs.Bytes.{is_plain}
use Rattle.jimple_lex.specs.Forms.{IsSegment, plain, quoted, IsJoined, last, joined, IsWord, segments, initializer, class_initializer}
use Rattle.jimple_words.specs.Kinds.{is_keyword, keywords}
use Rattle.jimple_lex.specs.Tokens.{Longest, IsToken}
use Rattle.jimple_lex.specs.declared.token.TokenKind.TheVariants.{Word, Keyword}
use Rattle.jimple_lex.proofs.Parts.{NotNext, longest_of}
use Rattle.jimple_lex.proofs.Segments.{begins_segment, joined_head, joined_past, plain_longest, quoted_longest, word_longest}
use Rattle.jimple_rewrite.proofs.After.{is_end, after_word}

-- a test that none of these bytes passes
pub none_of : (test : ℕ → Bool) (c : ℕ) (bytes : List ℕ) → list_all (λ x. not (test x)) bytes ≡ true → list_any (λ x. c == x) bytes ≡ true → test c ≡ false
none_of test c [] all any = absurd (let bad : false ≡ true = any in cc)
none_of test c (x ∷ bytes) all any =
    let each = and_parts (not (test x)) (list_all (λ y. not (test y)) bytes) all in
    elim (or_cases (c == x) (list_any (λ y. c == y) bytes) any) [
      | inl here ↦ ap test (eqb-true c x here) ∙ not-true (test x) each.0
      | inr later ↦ none_of test c bytes each.1 later
    ]

end_not_plain : (c : ℕ) → is_end c ≡ true → is_plain c ≡ false
end_not_plain c e = none_of is_plain c (codes " ,;:()[]>=\n") refl e

-- a word goes on with no plain byte
not_plain : (rest : List ℕ) → after_word rest ≡ true → NotNext is_plain rest
not_plain [] a = tt
not_plain (c ∷ cs) a = elim (or_cases (is_end c) (begins_with (codes ".<") (c ∷ cs)) a) [
  | inl e ↦ end_not_plain c e
  | inr b ↦ ap is_plain (sym (eqb-true 46 c (and_parts (46 == c) (begins_with (codes "<") cs) b).0))
]

-- nor with a dot and a segment
no_segment : (head : ℕ) (rest more : List ℕ) → begins_segment head ≡ true → rest ≡ dot ∷ head ∷ more → after_word rest ≡ true → ⊥
no_segment head rest more s e a =
    let b : (60 == head) && true ≡ true = ap after_word (sym e) ∙ a in
    let bad : true ≡ false = sym s ∙ ap begins_segment (sym (eqb-true 60 head (and_parts (60 == head) true b).0)) in cc

pub segment_longest : (text rest : List ℕ) → IsSegment text → NotNext is_plain rest → Longest IsSegment text rest
segment_longest text rest (plain c cs e b p) n = subst (λ (t : List ℕ). Longest IsSegment t rest) (sym e) (plain_longest c cs rest b p n)
segment_longest text rest (quoted name e p) n = subst (λ (t : List ℕ). Longest IsSegment t rest) (sym e) (quoted_longest name rest p)

joined_most : (text rest other left : List ℕ) → IsJoined text → after_word rest ≡ true → text ++ rest ≡ other ++ left → IsJoined other → length other ≤ length text
joined_most text rest other left (last s) a e j = elim (joined_past text rest other left (segment_longest text rest s (not_plain rest a)) e j) [
  | inl short ↦ short
  | inr more ↦ absurd (let h = joined_head more.0 more.1 in no_segment h.0 rest (h.1 ++ left) h.3 (more.2 ∙ ap (λ (t : List ℕ). dot ∷ (t ++ left)) h.2) a)
]
joined_most text rest other left (joined s m parts h k) a e j =
    let whole : s ++ (dot ∷ (m ++ rest)) ≡ other ++ left = sym (append_assoc s (dot ∷ m) rest) ∙ ap (λ (t : List ℕ). t ++ rest) (sym parts) ∙ e in
    let size = ap length parts in
    let both = length-append s (dot ∷ m) in
    elim (joined_past s (dot ∷ (m ++ rest)) other left (segment_longest s (dot ∷ (m ++ rest)) h refl) whole j) [
      | inl short ↦ omega (arith, short, size, both)
      | inr more ↦ let tails : m ++ rest ≡ more.0 ++ left = (let all = more.2 in cc) in
          let less = joined_most m rest more.0 left k a tails more.1 in
          let n = more.3 in
          omega (arith, less, n, size, both)
    ]

pub joined_longest : (text rest : List ℕ) → IsJoined text → after_word rest ≡ true → Longest IsJoined text rest
joined_longest text rest j a = longest_of IsJoined text rest j (λ other left e k. joined_most text rest other left j a e k)

pub word_token : (text rest : List ℕ) → IsJoined text → is_keyword text ≡ false → after_word rest ≡ true → IsToken Word text rest
word_token text rest j k a = (word_longest text rest (joined_longest text rest j a), k)

pub keyword_token : (text rest : List ℕ) → IsJoined text → is_keyword text ≡ true → after_word rest ≡ true → IsToken Keyword text rest
keyword_token text rest j k a = (word_longest text rest (joined_longest text rest j a), k)

-- Initializers end by themselves

not_joined : (text cs : List ℕ) → IsJoined text → text ≡ 60 ∷ cs → ⊥
not_joined text cs j e =
    let h = joined_head text j in
    let all : h.0 ∷ h.1 ≡ 60 ∷ cs = sym h.2 ∙ e in
    let same : h.0 ≡ 60 = cc in
    let bad : false ≡ true = ap begins_segment (sym same) ∙ h.3 in cc

init_more : (more : List ℕ) → IsWord (codes "<init>" ++ more) → more ≡ []
init_more more (segments j) = absurd (not_joined _ _ j refl)
init_more more (initializer f) = cc
init_more more (class_initializer f) = absurd (let bad : ◌≡◌ {A = ℕ} 105 99 = cc in omega arith)

clinit_more : (more : List ℕ) → IsWord (codes "<clinit>" ++ more) → more ≡ []
clinit_more more (segments j) = absurd (not_joined _ _ j refl)
clinit_more more (initializer f) = absurd (let bad : ◌≡◌ {A = ℕ} 99 105 = cc in omega arith)
clinit_more more (class_initializer f) = cc

pub init_token : (rest : List ℕ) → IsToken Word (codes "<init>") rest
unfolding is_keyword keywords
init_token rest = (record { is = initializer refl; ends = λ more left e w. init_more more w }, refl)

pub clinit_token : (rest : List ℕ) → IsToken Word (codes "<clinit>") rest
unfolding is_keyword keywords
clinit_token rest = (record { is = class_initializer refl; ends = λ more left e w. clinit_more more w }, refl)
