-- Segments and words by their places in the text.
use Rattle.std.proofs.Common.{◌≡◌, inl, inr, ℕ, zero, suc, ◌+◌, ◌-◌, ◌<◌, ◌≤◌, Bool, true, false, ◌||◌, ◌==◌, List, [], ◌∷◌, ◌++◌, length, take, drop, slice_index, sym, ap, subst, refl, ◌∙◌, arith, append_assoc, drop-cons, length-drop, take_all, codes}
use Rattle.jimple_lex.specs.Bytes.{is_quotable, single_quote}
use Rattle.jimple_words.specs.Bytes.{begins_plain, is_plain}
use Rattle.jimple_lex.specs.Forms.{IsSegment, IsJoined, IsWord, segments, initializer, class_initializer}
use Rattle.jimple_lex.specs.Tokens.{Longest}
use Rattle.jimple_lex.specs.Ends.{Ends, EndsLongest, EndsRun, part}
use Rattle.jimple_lex.specs.Front.{IsInitializer}
use Rattle.jimple_lex.proofs.Parts.{parts, part_cons, part_more, run_pass, run_next, not_next, ends_some, ends_none, longest_some, longest_none}
use Rattle.jimple_lex.proofs.Segments.{plain_longest, quoted_longest, quote_open, front_byte, begins_segment, segment_head, joined_head, joined_first, word_longest}

-- behind the end stands 0
pub within_by : (test : ℕ → Bool) (bytes : List ℕ) (at : ℕ) → test 0 ≡ false → test (slice_index bytes at) ≡ true → at < length bytes
within_by test [] zero none t = absurd (let bad : false ≡ true = sym none ∙ t in cc)
within_by test [] (suc at) none t = absurd (let bad : false ≡ true = sym none ∙ t in cc)
within_by test (b ∷ bs) zero none t = omega arith
within_by test (b ∷ bs) (suc at) none t = let n = within_by test bs at none t in omega (arith, n)

-- the byte there stands at the front of what is left
pub front_is : (bytes : List ℕ) (at : ℕ) → at < length bytes → drop at bytes ≡ slice_index bytes at ∷ drop (suc at) bytes
front_is bytes at below = drop-cons bytes at 0 below

pub part_one : (bytes : List ℕ) (at : ℕ) → at < length bytes → part bytes at (suc at) ≡ slice_index bytes at ∷ []
part_one bytes at below = part_cons bytes at (suc at) (omega arith) below ∙ ap (λ (n : ℕ). slice_index bytes at ∷ take n (drop (suc at) bytes)) (let none : suc at - suc at ≡ 0 = omega arith in none)

pub run_from : {test : ℕ → Bool} {limit at to : ℕ} → EndsRun test limit (at + 1) to → EndsRun test limit (suc at) to
run_from r = record { order = omega (arith, r.order); within = r.within; each = λ k low high. r.each k (omega (arith, low)) high; next = r.next }

module _ (bytes : List ℕ) (at to : ℕ) (below : at < length bytes) where
  pub plain_there : begins_plain (slice_index bytes at) ≡ true → EndsRun (λ k. is_plain (slice_index bytes k)) (length bytes) (at + 1) to → EndsLongest IsSegment bytes at to
  plain_there b e = let r = run_from e in
      longest_some IsSegment bytes at to (omega (arith, r.order)) r.within
      (subst (λ (t : List ℕ). Longest IsSegment t (drop to bytes)) (sym (part_cons bytes at to (omega (arith, r.order)) below))
      (plain_longest (slice_index bytes at) (part bytes (suc at) to) (drop to bytes) b (run_pass is_plain bytes (suc at) to r) (run_next is_plain bytes (suc at) to r)))

  module _ (quote : slice_index bytes at ≡ single_quote) (e : EndsRun (λ k. is_quotable (slice_index bytes k)) (length bytes) (at + 1) to) where
    r : EndsRun (λ k. is_quotable (slice_index bytes k)) (length bytes) (suc at) to
    r = run_from e

    pub quoted_there : slice_index bytes to ≡ single_quote → EndsLongest IsSegment bytes at (to + 1)
    quoted_there last =
        let one : to + 1 ≡ suc to = omega arith in
        let inside : to < length bytes = within_by (λ c. c == 39) bytes to refl (ap (λ (c : ℕ). c == 39) last) in
        subst (EndsLongest IsSegment bytes at) (sym one)
        (longest_some IsSegment bytes at (suc to) (omega (arith, r.order)) (omega (arith, inside))
        (subst (λ (t : List ℕ). Longest IsSegment t (drop (suc to) bytes)) (sym (whole inside last)) (quoted_longest (part bytes (suc at) to) (drop (suc to) bytes) (run_pass is_quotable bytes (suc at) to r))))
      where
        whole : to < length bytes → slice_index bytes to ≡ single_quote → part bytes at (suc to) ≡ single_quote ∷ (part bytes (suc at) to ++ single_quote ∷ [])
        whole inside last = part_cons bytes at (suc to) (omega (arith, r.order)) below ∙ ap (λ (x : ℕ). x ∷ part bytes (suc at) (suc to)) quote
            ∙ ap (λ (t : List ℕ). single_quote ∷ t) (part_more bytes (suc at) to (suc to) r.order (omega arith) (omega (arith, inside)) ∙ ap (λ (t : List ℕ). part bytes (suc at) to ++ t) (part_one bytes to inside ∙ ap (λ (x : ℕ). x ∷ []) last))

    pub quote_unended : (slice_index bytes to ≡ single_quote → ⊥) → EndsLongest IsSegment bytes at at
    quote_unended other = longest_none IsSegment bytes at (omega (arith, below))
        (λ text rest f s. quote_open (part bytes (suc at) to) (drop to bytes) text rest (run_pass is_quotable bytes (suc at) to r) (run_next is_quotable bytes (suc at) to r)
        (not_next (λ c. c == 39) bytes to (λ _. differs (slice_index bytes to) other)) (sym whole ∙ f) s)
      where
        whole : drop at bytes ≡ 39 ∷ (part bytes (suc at) to ++ drop to bytes)
        whole = front_is bytes at below ∙ ap (λ (x : ℕ). x ∷ drop (suc at) bytes) quote ∙ ap (λ (t : List ℕ). 39 ∷ t) (parts bytes (suc at) to r.order)

        differs : (c : ℕ) → (c ≡ 39 → ⊥) → (c == 39) ≡ false
        differs c n = grind arith

pub no_segment : (bytes : List ℕ) (at : ℕ) → at ≤ length bytes → begins_plain (slice_index bytes at) ≡ false → (slice_index bytes at ≡ 39 → ⊥) → EndsLongest IsSegment bytes at at
no_segment bytes at within b n = longest_none IsSegment bytes at within
    (λ text rest e s. let h = segment_head text s in
    let f = front_byte bytes at h.0 (h.1 ++ rest) (e ∙ ap (λ (t : List ℕ). t ++ rest) h.2) in
    neither (slice_index bytes at) b n (ap begins_segment f.0 ∙ h.3))
  where
    neither : (c : ℕ) → begins_plain c ≡ false → (c ≡ 39 → ⊥) → begins_segment c ≡ true → ⊥
    neither c b n s = let rest : (c == 39) ≡ true = sym (ap (λ (v : Bool). v || (c == 39)) b) ∙ s in n (grind arith)

module _ (bytes : List ℕ) (at : ℕ) (below : at < length bytes) where
  pub joined_word : (to : ℕ) → at < to → to ≤ length bytes → Longest IsJoined (part bytes at to) (drop to bytes) → Ends (Longest IsWord) bytes at to
  joined_word to order within l = ends_some (Longest IsWord) bytes at to order within (word_longest (part bytes at to) (drop to bytes) l)

  -- a word's first byte
  no_word : (test : ℕ → Bool) → test (slice_index bytes at) ≡ false → ((c : ℕ) (cs : List ℕ) → drop at bytes ≡ c ∷ cs → test c ≡ true) → ⊥
  no_word test f g = let e = g (slice_index bytes at) (drop (suc at) bytes) (front_is bytes at below) in let bad : false ≡ true = sym f ∙ e in cc

  pub no_joined_word : EndsLongest IsSegment bytes at at → (slice_index bytes at ≡ 60 → ⊥) → Ends (Longest IsWord) bytes at at
  no_joined_word s n = ends_none (Longest IsWord) bytes at (omega (arith, below)) (λ text rest e w. goes text rest e w.is) where
    goes : (text rest : List ℕ) → drop at bytes ≡ text ++ rest → IsWord text → ⊥
    goes text rest e (segments j) = let first = joined_first text j in s.none (omega arith) first.0 (first.1 ++ rest) (e ∙ ap (λ (t : List ℕ). t ++ rest) first.2 ∙ append_assoc first.0 first.1 rest) first.3
    goes text rest e (initializer f) = n (front_byte bytes at 60 (codes "init>" ++ rest) (e ∙ ap (λ (t : List ℕ). t ++ rest) f)).0
    goes text rest e (class_initializer f) = n (front_byte bytes at 60 (codes "clinit>" ++ rest) (e ∙ ap (λ (t : List ℕ). t ++ rest) f)).0

  pub initializer_word : (to : ℕ) → slice_index bytes at ≡ 60 → Ends IsInitializer bytes at to → Ends (Longest IsWord) bytes at to
  initializer_word to is i = record {
    order = i.order;
    within = i.within;
    some = λ below. found (part bytes at to) (drop to bytes) (i.some below);
    none = λ over text rest e w. other over text rest e w.is;
  } where
    not_joined : (t : List ℕ) (cs : List ℕ) → IsJoined t → t ≡ 60 ∷ cs → ⊥
    not_joined t cs j e = let h = joined_head t j in let all : h.0 ∷ h.1 ≡ 60 ∷ cs = sym h.2 ∙ e in let same : h.0 ≡ 60 = cc in let bad : false ≡ true = ap begins_segment (sym same) ∙ h.3 in cc

    other : to ≤ at → (text rest : List ℕ) → drop at bytes ≡ text ++ rest → IsWord text → ⊥
    other over text rest e (segments j) =
        let h = joined_head text j in
        let f = front_byte bytes at h.0 (h.1 ++ rest) (e ∙ ap (λ (t : List ℕ). t ++ rest) h.2) in
        let same : h.0 ≡ 60 = sym f.0 ∙ is in let bad : false ≡ true = ap begins_segment (sym same) ∙ h.3 in cc
    other over text rest e (initializer f) = i.none over text rest e (inl f)
    other over text rest e (class_initializer f) = i.none over text rest e (inr f)

    init_more : (more : List ℕ) → IsWord (codes "<init>" ++ more) → more ≡ []
    init_more more (segments j) = absurd (not_joined _ _ j refl)
    init_more more (initializer f) = cc
    init_more more (class_initializer f) = absurd (let bad : ◌≡◌ {A = ℕ} 105 99 = cc in omega arith)

    clinit_more : (more : List ℕ) → IsWord (codes "<clinit>" ++ more) → more ≡ []
    clinit_more more (segments j) = absurd (not_joined _ _ j refl)
    clinit_more more (initializer f) = absurd (let bad : ◌≡◌ {A = ℕ} 99 105 = cc in omega arith)
    clinit_more more (class_initializer f) = cc

    found : (text rest : List ℕ) → IsInitializer text rest → Longest IsWord text rest
    found text rest (inl f) = record { is = initializer f; ends = λ more left e w. init_more more (subst (λ (t : List ℕ). IsWord (t ++ more)) f w) }
    found text rest (inr f) = record { is = class_initializer f; ends = λ more left e w. clinit_more more (subst (λ (t : List ℕ). IsWord (t ++ more)) f w) }

-- a byte that was read and tested
pub tested : (test : ℕ → Bool) {c byte : ℕ} {answer : Bool} (value : Bool) → c ≡ byte → answer ≡ test c → answer ≡ value → test byte ≡ value
tested test value e f g = sym (ap test e) ∙ sym f ∙ g

pub segment_from : (bytes : List ℕ) (to next : ℕ) → EndsLongest IsSegment bytes (to + 1) next → EndsLongest IsSegment bytes (suc to) next
segment_from bytes to next s = let one : to + 1 ≡ suc to = omega arith in subst (λ (k : ℕ). EndsLongest IsSegment bytes k next) one s

pub tail_slice : (bytes : List ℕ) (at : ℕ) → take (length bytes - at) (drop at bytes) ≡ drop at bytes
tail_slice bytes at = take_all (length bytes - at) (drop at bytes) (let n = length-drop at bytes in omega (arith, n))
