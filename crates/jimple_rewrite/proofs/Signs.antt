-- Signs end where the byte behind them says so.
use Rattle.std.proofs.Common.{◌≡◌, ℕ, Bool, true, false, cond, ◌&&◌, ◌==◌, List, [], ◌∷◌, ◌++◌, sym, ap, refl, ◌∙◌, arith, append_assoc, codes}
use Rattle.std.specs.List.{list_any}
use Rattle.std.proofs.lemmas.Bool.{and_left, eqb-true, both_ways, false_from_ne_true, or_from}
use Rattle.jimple_lex.specs.Bytes.{begins_with, dot}
use Rattle.jimple_words.specs.Bytes.{begins_plain, is_plain}
use Rattle.jimple_lex.specs.Forms.{IsSegment, plain, quoted, IsJoined, last, joined, is_sign}
use Rattle.jimple_words.specs.Kinds.{signs}
use Rattle.jimple_lex.specs.Tokens.{IsToken, begins_comment}
use Rattle.jimple_lex.specs.Front.{front}
use Rattle.jimple_lex.specs.Signs.{is_pair, is_triple}
use Rattle.jimple_lex.specs.declared.front.Front.{Front}
use Rattle.jimple_lex.specs.declared.front.Front.TheVariants as fronts
use Rattle.jimple_lex.specs.declared.token.TokenKind.TheVariants.{Sign}
use Rattle.jimple_lex.proofs.Parts.{Pass}
use Rattle.jimple_lex.proofs.Segments.{begins_segment, joined_head}
use Rattle.jimple_lex.proofs.Signs.{sign_none, sign_two, sign_three, sign_four}
use Rattle.jimple_lex.proofs.Fronts.{word_front, number_front, comment_begins, not_true}
use Rattle.jimple_rewrite.proofs.Words.{none_of}

-- a longer sign may begin with this one
abbrev pub opens_longer : List ℕ → Bool
opens_longer [] = false
opens_longer (c ∷ cs) = list_any (λ x. c == x) (codes ":=!<>")

-- and go on with what follows
abbrev pub goes_longer : List ℕ → Bool
goes_longer [] = false
goes_longer (c ∷ cs) = list_any (λ x. c == x) (codes "=<>")

pair_longer : (a b : ℕ) (more : List ℕ) → is_pair a b ≡ true → (opens_longer (a ∷ []) && goes_longer (b ∷ more)) ≡ true
pair_longer a b more e = grind arith

triple_longer : (a b c : ℕ) (more : List ℕ) → is_triple a b c ≡ true → (opens_longer (a ∷ b ∷ []) && goes_longer (c ∷ more)) ≡ true
triple_longer a b c more e = grind arith

triple_pair : (a b c : ℕ) → is_triple a b c ≡ true → is_pair a b ≡ true
triple_pair a b c e = grind arith

sign_third : (a b c : ℕ) (more : List ℕ) → is_sign (a ∷ b ∷ c ∷ more) ≡ true → is_triple a b c ≡ true
sign_third a b c [] e = sym (sign_three a b c) ∙ e
sign_third a b c (d ∷ more) e = absurd (let bad : false ≡ true = sym (sign_four a b c d more) ∙ e in cc)

sign_second : (a b : ℕ) (more : List ℕ) → is_sign (a ∷ b ∷ more) ≡ true → is_pair a b ≡ true
sign_second a b [] e = sym (sign_two a b) ∙ e
sign_second a b (c ∷ more) e = triple_pair a b c (sign_third a b c more e)

sign_ends : (text rest : List ℕ) → (opens_longer text && goes_longer rest) ≡ false → (more left : List ℕ) → rest ≡ more ++ left → is_sign (text ++ more) ≡ true → is_sign text ≡ true → more ≡ []
sign_ends text rest n [] left e s t = refl
sign_ends [] rest n (x ∷ more) left e s t = absurd (let bad : false ≡ true = sym sign_none ∙ t in cc)
sign_ends (a ∷ []) rest n (x ∷ more) left e s t = absurd (both_ways _ (ap (λ r. opens_longer (a ∷ []) && goes_longer r) (sym e) ∙ n) (pair_longer a x (more ++ left) (sign_second a x more s)))
sign_ends (a ∷ b ∷ []) rest n (x ∷ more) left e s t = absurd (both_ways _ (ap (λ r. opens_longer (a ∷ b ∷ []) && goes_longer r) (sym e) ∙ n) (triple_longer a b x (more ++ left) (sign_third a b x more s)))
sign_ends (a ∷ b ∷ c ∷ text) rest n (x ∷ more) left e s t = absurd (four text s) where
  four : (u : List ℕ) → is_sign (a ∷ b ∷ c ∷ (u ++ x ∷ more)) ≡ true → ⊥
  four [] g = let bad : false ≡ true = sym (sign_four a b c x more) ∙ g in cc
  four (y ∷ u) g = let bad : false ≡ true = sym (sign_four a b c y (u ++ x ∷ more)) ∙ g in cc

-- where a sign may stand by the first bytes, and doesn't go on with the next, it is a token
pub sign_token : (text rest : List ℕ) → is_sign text ≡ true → (opens_longer text && goes_longer rest) ≡ false → front (text ++ rest) ≡ fronts.Sign → IsToken Sign text rest
sign_token text rest s n f = record {
  longest = record { is = s; ends = λ more left e t. sign_ends text rest n more left e t s };
  no_word = λ b. let other = ap front b.parts ∙ word_front b.text b.rest b.is in let bad : fronts.Sign ≡ fronts.Word = sym f ∙ other in cc;
  no_number = λ b. let other = ap front b.parts ∙ number_front b.text b.rest b.is in let bad : fronts.Sign ≡ fronts.Number = sym f ∙ other in cc;
  no_comment = not_true (begins_comment (text ++ rest)) (λ b. let bad : fronts.Sign ≡ fronts.Comment = sym f ∙ comment_begins (text ++ rest) b in cc);
}

-- The sign in front of a signature

-- no plain bytes with a `>` behind them are in front where plain bytes end at another byte
begins_no : (word segment : List ℕ) (next : ℕ) (rest : List ℕ) → Pass is_plain word → Pass is_plain segment → is_plain next ≡ false → (62 == next) ≡ false
    → begins_with (word ++ 62 ∷ []) (segment ++ next ∷ rest) ≡ false
begins_no [] [] next rest p q n m = and_left (62 == next) true m
begins_no [] (c ∷ segment) next rest p q n m = and_left (62 == c) true (false_from_ne_true (62 == c) (λ e. both_ways (is_plain c) (other c e) q.0)) where
  other : (d : ℕ) → (62 == d) ≡ true → is_plain d ≡ false
  other d e = ap is_plain (sym (eqb-true 62 d e))
begins_no (x ∷ word) [] next rest p q n m = and_left (x == next) _ (false_from_ne_true (x == next) (λ e. both_ways (is_plain next) n (same x next e p.0))) where
  same : (a b : ℕ) → (a == b) ≡ true → is_plain a ≡ true → is_plain b ≡ true
  same a b e h = ap is_plain (sym (eqb-true a b e)) ∙ h
begins_no (x ∷ word) (c ∷ segment) next rest p q n m = both (x == c) (begins_with (word ++ 62 ∷ []) (segment ++ next ∷ rest)) (begins_no word segment next rest p.1 q.1 n m) where
  both : (a b : Bool) → b ≡ false → (a && b) ≡ false
  both true b e = e
  both false b e = refl

segment_begins : (word segment : List ℕ) (next : ℕ) (rest : List ℕ) → Pass is_plain word → ((more : List ℕ) → begins_with (word ++ 62 ∷ []) (39 ∷ more) ≡ false) → IsSegment segment → is_plain next ≡ false → (62 == next) ≡ false
    → begins_with (word ++ 62 ∷ []) (segment ++ next ∷ rest) ≡ false
segment_begins word segment next rest p quotes (plain c cs e b q) n m =
    ap (λ (t : List ℕ). begins_with (word ++ 62 ∷ []) (t ++ next ∷ rest)) e ∙ begins_no word (c ∷ cs) next rest p (goes c b, q) n m
  where
    goes : (d : ℕ) → begins_plain d ≡ true → is_plain d ≡ true
    goes d h = grind arith
segment_begins word segment next rest p quotes (quoted name e q) n m = ap (λ (t : List ℕ). begins_with (word ++ 62 ∷ []) (t ++ next ∷ rest)) e ∙ quotes ((name ++ 39 ∷ []) ++ next ∷ rest)

joined_begins : (word text rest : List ℕ) → Pass is_plain word → ((more : List ℕ) → begins_with (word ++ 62 ∷ []) (39 ∷ more) ≡ false) → IsJoined text → begins_with (word ++ 62 ∷ []) (text ++ 58 ∷ rest) ≡ false
joined_begins word text rest p quotes (last s) = segment_begins word text 58 rest p quotes s refl refl
joined_begins word text rest p quotes (joined s more e h j) =
    ap (begins_with (word ++ 62 ∷ [])) (ap (λ (t : List ℕ). t ++ 58 ∷ rest) e ∙ append_assoc s (dot ∷ more) (58 ∷ rest)) ∙ segment_begins word s dot (more ++ 58 ∷ rest) p quotes h refl refl

pub less : (text rest : List ℕ) → IsJoined text → IsToken Sign (codes "<") (text ++ 58 ∷ rest)
unfolding is_sign signs
less text rest j =
    sign_token (codes "<") (text ++ 58 ∷ rest) refl (let h = joined_head text j in ap (λ (t : List ℕ). goes_longer (t ++ 58 ∷ rest)) h.2 ∙ head_no h.0 h.3)
    (ap to_front (or_from _ _ (joined_begins (codes "init") text rest (refl, (refl, (refl, (refl, tt)))) (λ more. refl) j) (joined_begins (codes "clinit") text rest (refl, (refl, (refl, (refl, (refl, (refl, tt)))))) (λ more. refl) j)))
  where
    to_front : Bool → Front
    to_front b = cond b fronts.Word fronts.Sign

    head_no : (c : ℕ) → begins_segment c ≡ true → list_any (λ x. c == x) (codes "=<>") ≡ false
    head_no c h = false_from_ne_true _ (λ e. both_ways (begins_segment c) (none_of begins_segment c (codes "=<>") refl e) h)
