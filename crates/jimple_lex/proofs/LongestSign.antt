-- The longest sign at a place.
use Rattle.std.proofs.Common.{◌≡◌, ◌⊎◌, inl, inr, ℕ, suc, ◌+◌, ◌<◌, ◌≤◌, Bool, true, false, cond, ◌||◌, ◌==◌, List, [], ◌∷◌, ◌++◌, length, drop, slice_index, sym, ap, subst, refl, ◌∙◌, arith}
use Rattle.jimple_lex.specs.Forms.{is_sign}
use Rattle.jimple_lex.specs.Tokens.{Longest, IsSign, begins_comment}
use Rattle.jimple_lex.specs.Ends.{Ends, part}
use Rattle.jimple_lex.specs.Front.{front}
use Rattle.jimple_lex.specs.Signs.{is_single, is_pair, is_triple, sign_length}
use Rattle.jimple_lex.specs.declared.front.Front.TheVariants as fronts
use Rattle.jimple_lex.proofs.Parts.{parts, part_cons, ends_some, ends_none}
use Rattle.jimple_lex.proofs.Segments.{front_byte}
use Rattle.jimple_lex.proofs.Places.{within_by, part_one}
use Rattle.jimple_lex.proofs.Signs.{sign_none, sign_one, sign_two, sign_three, sign_four}
use Rattle.jimple_lex.proofs.Fronts.{word_front, number_front, comment_begins, not_true}

abbrev LongestSign : List ℕ → List ℕ → Type 0
LongestSign text rest = Longest (λ t. is_sign t ≡ true) text rest

-- where a sign may stand by the first bytes, the longest is one
sign_by_front : (text rest : List ℕ) → LongestSign text rest → front (text ++ rest) ≡ fronts.Sign → IsSign text rest
sign_by_front text rest l f = record {
  longest = l;
  no_word = λ b. let other = ap front b.parts ∙ word_front b.text b.rest b.is in let bad : fronts.Sign ≡ fronts.Word = sym f ∙ other in cc;
  no_number = λ b. let other = ap front b.parts ∙ number_front b.text b.rest b.is in let bad : fronts.Sign ≡ fronts.Number = sym f ∙ other in cc;
  no_comment = not_true (begins_comment (text ++ rest)) (λ b. let bad : fronts.Sign ≡ fronts.Comment = sym f ∙ comment_begins (text ++ rest) b in cc);
}

triple_pair : (a b c : ℕ) → is_triple a b c ≡ true → is_pair a b ≡ true
triple_pair a b c e = grind arith

sign_third : (a b x : ℕ) (xs : List ℕ) → is_sign (a ∷ b ∷ x ∷ xs) ≡ true → is_triple a b x ≡ true
sign_third a b x [] e = sym (sign_three a b x) ∙ e
sign_third a b x (y ∷ xs) e = absurd (let bad : false ≡ true = sym (sign_four a b x y xs) ∙ e in cc)

sign_second : (a x : ℕ) (xs : List ℕ) → is_sign (a ∷ x ∷ xs) ≡ true → is_pair a x ≡ true
sign_second a x [] e = sym (sign_two a x) ∙ e
sign_second a x (y ∷ xs) e = triple_pair a x y (sign_third a x y xs e)

split : (b : Bool) → (b ≡ true) ⊎ (b ≡ false)
split true = inl refl
split false = inr refl

length_three : (a b c : ℕ) → is_triple a b c ≡ true → sign_length a b c ≡ 3
length_three a b c t = ap (λ (v : Bool). cond v 3 (cond (is_pair a b) 2 (cond (is_single a) 1 0))) t

length_two : (a b c : ℕ) → is_triple a b c ≡ false → is_pair a b ≡ true → sign_length a b c ≡ 2
length_two a b c t p = ap (λ (v : Bool). cond v 3 (cond (is_pair a b) 2 (cond (is_single a) 1 0))) t ∙ ap (λ (v : Bool). cond v 2 (cond (is_single a) 1 0)) p

length_one : (a b c : ℕ) → is_triple a b c ≡ false → is_pair a b ≡ false → is_single a ≡ true → sign_length a b c ≡ 1
length_one a b c t p s = ap (λ (v : Bool). cond v 3 (cond (is_pair a b) 2 (cond (is_single a) 1 0))) t ∙ ap (λ (v : Bool). cond v 2 (cond (is_single a) 1 0)) p ∙ ap (λ (v : Bool). cond v 1 0) s

length_none : (a b c : ℕ) → is_triple a b c ≡ false → is_pair a b ≡ false → is_single a ≡ false → sign_length a b c ≡ 0
length_none a b c t p s = ap (λ (v : Bool). cond v 3 (cond (is_pair a b) 2 (cond (is_single a) 1 0))) t ∙ ap (λ (v : Bool). cond v 2 (cond (is_single a) 1 0)) p ∙ ap (λ (v : Bool). cond v 1 0) s

triple_third : (a b c : ℕ) → is_triple a b c ≡ true → (c == 62) ≡ true
triple_third a b c e = grind arith

pair_second : (a b : ℕ) → is_pair a b ≡ true → (b == 61) || (b == 60) || (b == 62) ≡ true
pair_second a b e = grind arith

module _ (bytes : List ℕ) (at : ℕ) (below : at < length bytes) (f : front (drop at bytes) ≡ fronts.Sign) where
  abbrev a : ℕ
  a = slice_index bytes at

  abbrev b : ℕ
  b = slice_index bytes (suc at)

  abbrev c : ℕ
  c = slice_index bytes (suc (suc at))

  there : (to : ℕ) → at < to → to ≤ length bytes → LongestSign (part bytes at to) (drop to bytes) → Ends IsSign bytes at to
  there to order within l = ends_some IsSign bytes at to order within
      (sign_by_front (part bytes at to) (drop to bytes) l (ap front (sym (parts bytes at to (omega (arith, order)))) ∙ f))

  one_there : is_pair a b ≡ false → is_single a ≡ true → Ends IsSign bytes at (suc at)
  one_there p s = there (suc at) (omega arith) (omega (arith, below)) (subst (λ (t : List ℕ). LongestSign t (drop (suc at) bytes)) (sym (part_one bytes at below)) (record { is = sign_one a ∙ s; ends = goes })) where
    goes : (more left : List ℕ) → drop (suc at) bytes ≡ more ++ left → is_sign (a ∷ more) ≡ true → more ≡ []
    goes [] left e g = refl
    goes (x ∷ xs) left e g = absurd (let next = front_byte bytes (suc at) x (xs ++ left) e in
        let bad : false ≡ true = sym p ∙ ap (is_pair a) next.0 ∙ sign_second a x xs g in cc)

  two_there : is_triple a b c ≡ false → is_pair a b ≡ true → Ends IsSign bytes at (suc (suc at))
  two_there t p = there (suc (suc at)) (omega arith) (omega (arith, next)) (subst (λ (u : List ℕ). LongestSign u (drop (suc (suc at)) bytes)) (sym pieces) (record { is = sign_two a b ∙ p; ends = goes })) where
    next : suc at < length bytes
    next = within_by (λ x. (x == 61) || (x == 60) || (x == 62)) bytes (suc at) refl (pair_second a b p)

    pieces : part bytes at (suc (suc at)) ≡ a ∷ b ∷ []
    pieces = part_cons bytes at (suc (suc at)) (omega arith) below ∙ ap (λ (u : List ℕ). a ∷ u) (part_one bytes (suc at) next)

    goes : (more left : List ℕ) → drop (suc (suc at)) bytes ≡ more ++ left → is_sign (a ∷ b ∷ more) ≡ true → more ≡ []
    goes [] left e g = refl
    goes (x ∷ xs) left e g = absurd (let third = front_byte bytes (suc (suc at)) x (xs ++ left) e in
        let bad : false ≡ true = sym t ∙ ap (is_triple a b) third.0 ∙ sign_third a b x xs g in cc)

  three_there : is_triple a b c ≡ true → Ends IsSign bytes at (suc (suc (suc at)))
  three_there t = there (suc (suc (suc at))) (omega arith) (omega (arith, third)) (subst (λ (u : List ℕ). LongestSign u (drop (suc (suc (suc at))) bytes)) (sym pieces) (record { is = sign_three a b c ∙ t; ends = goes })) where
    third : suc (suc at) < length bytes
    third = within_by (λ x. x == 62) bytes (suc (suc at)) refl (triple_third a b c t)

    pieces : part bytes at (suc (suc (suc at))) ≡ a ∷ b ∷ c ∷ []
    pieces = part_cons bytes at (suc (suc (suc at))) (omega arith) below ∙ ap (λ (u : List ℕ). a ∷ u) (part_cons bytes (suc at) (suc (suc (suc at))) (omega arith) (omega (arith, third)) ∙ ap (λ (u : List ℕ). b ∷ u) (part_one bytes (suc (suc at)) third))

    goes : (more left : List ℕ) → drop (suc (suc (suc at))) bytes ≡ more ++ left → is_sign (a ∷ b ∷ c ∷ more) ≡ true → more ≡ []
    goes [] left e g = refl
    goes (x ∷ xs) left e g = absurd (let bad : false ≡ true = sym (sign_four a b c x xs) ∙ g in cc)

  none_there : is_pair a b ≡ false → is_single a ≡ false → Ends IsSign bytes at at
  none_there p s = ends_none IsSign bytes at (omega (arith, below)) (λ text rest e i. goes text rest e i.longest.is) where
    goes : (text rest : List ℕ) → drop at bytes ≡ text ++ rest → is_sign text ≡ true → ⊥
    goes [] rest e g = let bad : false ≡ true = sym sign_none ∙ g in cc
    goes (x ∷ []) rest e g = let first = front_byte bytes at x rest e in let bad : false ≡ true = sym s ∙ ap is_single first.0 ∙ sym (sign_one x) ∙ g in cc
    goes (x ∷ y ∷ more) rest e g =
        let first = front_byte bytes at x (y ∷ (more ++ rest)) e in
        let next = front_byte bytes (suc at) y (more ++ rest) first.1 in
        let bad : false ≡ true = sym p ∙ ap (λ (v : ℕ). is_pair v b) first.0 ∙ ap (is_pair x) next.0 ∙ sign_second x y more g in cc

  sign_here : Ends IsSign bytes at (at + sign_length a b c)
  sign_here = elim (split (is_triple a b c)) [
    | inl t ↦ to_there 3 (suc (suc (suc at))) (omega arith) (length_three a b c t) (three_there t)
    | inr t ↦ elim (split (is_pair a b)) [
      | inl p ↦ to_there 2 (suc (suc at)) (omega arith) (length_two a b c t p) (two_there t p)
      | inr p ↦ elim (split (is_single a)) [
        | inl s ↦ to_there 1 (suc at) (omega arith) (length_one a b c t p s) (one_there p s)
        | inr s ↦ to_there 0 at (omega arith) (length_none a b c t p s) (none_there p s)
      ]
    ]
  ] where
    to_there : (n to : ℕ) → to ≡ at + n → sign_length a b c ≡ n → Ends IsSign bytes at to → Ends IsSign bytes at (at + sign_length a b c)
    to_there n to e l s = subst (Ends IsSign bytes at) (e ∙ ap (λ (k : ℕ). at + k) (sym l)) s

pub sign_there : (bytes : List ℕ) (at n : ℕ) → at < length bytes → front (drop at bytes) ≡ fronts.Sign → n ≡ sign_length (slice_index bytes at) (slice_index bytes (at + 1)) (slice_index bytes (at + 2)) → Ends IsSign bytes at (at + n)
sign_there bytes at n below f e =
    let one : at + 1 ≡ suc at = omega arith in let two : at + 2 ≡ suc (suc at) = omega arith in
    subst (λ (k : ℕ). Ends IsSign bytes at (at + k)) (sym (e ∙ ap (λ (k : ℕ). sign_length (slice_index bytes at) (slice_index bytes k) (slice_index bytes (at + 2))) one ∙ ap (λ (k : ℕ). sign_length (slice_index bytes at) (slice_index bytes (suc at)) (slice_index bytes k)) two))
    (sign_here bytes at below f)
