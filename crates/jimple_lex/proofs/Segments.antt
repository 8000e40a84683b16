-- Segments and words: where they end.
use Rattle.std.proofs.Common.{◌≡◌, ◌⊎◌, inl, inr, ℕ, zero, suc, ◌+◌, ◌-◌, ◌<◌, ◌≤◌, Bool, true, false, ◌||◌, ◌==◌, List, [], ◌∷◌, ◌++◌, length, drop, slice_index, sym, ap, subst, refl, ◌∙◌, arith, append_assoc, append-nil, length-append, codes}
use Rattle.jimple_lex.specs.Bytes.{is_quotable, single_quote, dot}
use Rattle.jimple_words.specs.Bytes.{begins_plain, is_plain}
use Rattle.jimple_lex.specs.Forms.{IsSegment, plain, quoted, IsJoined, last, joined, IsWord, segments, initializer, class_initializer}
use Rattle.jimple_lex.specs.Tokens.{Longest}
use Rattle.jimple_lex.specs.Ends.{EndsLongest, part}
use Rattle.jimple_lex.proofs.Parts.{NotNext, Pass, pass_behind, one_run, run_ends, fronts, longest_front, longest_of, parts, part_length, part_cons, part_more}

-- the front of a text that is left
pub front_byte : (bytes : List ℕ) (at x : ℕ) (xs : List ℕ) → drop at bytes ≡ x ∷ xs → (slice_index bytes at ≡ x) × (drop (suc at) bytes ≡ xs) × (at < length bytes)
front_byte [] zero x xs e = absurd (let bad : [] ≡ x ∷ xs = e in cc)
front_byte [] (suc at) x xs e = absurd (let bad : [] ≡ x ∷ xs = e in cc)
front_byte (b ∷ bs) zero x xs e = (cc, cc, omega arith)
front_byte (b ∷ bs) (suc at) x xs e = let f = front_byte bs at x xs e in (f.0, f.1, omega (arith, f.2))

plain_goes : (c : ℕ) (cs more left : List ℕ) (t : List ℕ) → begins_plain c ≡ true → NotNext is_plain (more ++ left) → t ≡ c ∷ (cs ++ more) → IsSegment t → more ≡ []
plain_goes c cs more left t b n e (plain d ds f h p) =
    let tails : ds ≡ cs ++ more = cc in
    run_ends is_plain more left n (pass_behind is_plain cs more (subst (Pass is_plain) tails p))
plain_goes c cs more left t b n e (quoted name f p) = absurd (let same : c ≡ 39 = cc in let bad : false ≡ true = ap begins_plain (sym same) ∙ b in cc)

pub plain_longest : (c : ℕ) (cs rest : List ℕ) → begins_plain c ≡ true → Pass is_plain cs → NotNext is_plain rest → Longest IsSegment (c ∷ cs) rest
plain_longest c cs rest b p n = record { is = plain c cs refl b p; ends = λ more left e s. plain_goes c cs more left _ b (subst (NotNext is_plain) e n) refl s }

-- the name between quotes is one
one_name : (name other more left : List ℕ) → Pass is_quotable name → Pass is_quotable other → name ++ single_quote ∷ more ≡ other ++ single_quote ∷ left → (name ≡ other) × (more ≡ left)
one_name name other more left p q e =
    let run = one_run is_quotable name other (39 ∷ more) (39 ∷ left) p q refl refl e in
    let quotes : 39 ∷ more ≡ 39 ∷ left = run.1 in
    (run.0, cc)

quoted_goes : (name more : List ℕ) (t : List ℕ) → Pass is_quotable name → t ≡ (39 ∷ (name ++ 39 ∷ [])) ++ more → IsSegment t → more ≡ []
quoted_goes name more t p e (plain d ds f h q) = absurd (let same : d ≡ 39 = cc in let bad : false ≡ true = ap begins_plain (sym same) ∙ h in cc)
quoted_goes name more t p e (quoted other f q) =
    let tails : (name ++ 39 ∷ []) ++ more ≡ other ++ 39 ∷ [] = cc in
    (one_name name other more [] p q (sym (append_assoc name (39 ∷ []) more) ∙ tails)).1

pub quoted_longest : (name rest : List ℕ) → Pass is_quotable name → Longest IsSegment (39 ∷ (name ++ 39 ∷ [])) rest
quoted_longest name rest p = record { is = quoted name refl p; ends = λ more left e s. quoted_goes name more _ p refl s }

-- a quoted segment that doesn't end is none
pub quote_open : (name rest text left : List ℕ) → Pass is_quotable name → NotNext is_quotable rest → NotNext (λ c. c == 39) rest → 39 ∷ (name ++ rest) ≡ text ++ left → IsSegment text → ⊥
quote_open name rest text left p n unended e (plain d ds f h q) =
    let all : 39 ∷ (name ++ rest) ≡ d ∷ (ds ++ left) = e ∙ ap (λ (t : List ℕ). t ++ left) f in
    let same : d ≡ 39 = cc in let bad : false ≡ true = ap begins_plain (sym same) ∙ h in cc
quote_open name rest text left p n unended e (quoted other f q) =
    let all : 39 ∷ (name ++ rest) ≡ 39 ∷ ((other ++ 39 ∷ []) ++ left) = e ∙ ap (λ (t : List ℕ). t ++ left) f in
    let tails : name ++ rest ≡ (other ++ 39 ∷ []) ++ left = cc in
    let run = one_run is_quotable name other rest (39 ∷ left) p q n refl (tails ∙ append_assoc other (39 ∷ []) left) in
    let bad : false ≡ true = sym (subst (NotNext (λ c. c == 39)) run.1 unended) in cc

abbrev pub begins_segment : ℕ → Bool
begins_segment c = begins_plain c || (c == 39)

pub segment_head : (t : List ℕ) → IsSegment t → (c : ℕ) × (cs : List ℕ) × (t ≡ c ∷ cs) × (begins_segment c ≡ true)
segment_head t (plain c cs e b p) = (c, cs, e, ap (λ (v : Bool). v || (c == 39)) b)
segment_head t (quoted name e p) = (39, name ++ 39 ∷ [], e, refl)

pub joined_head : (t : List ℕ) → IsJoined t → (c : ℕ) × (cs : List ℕ) × (t ≡ c ∷ cs) × (begins_segment c ≡ true)
joined_head t (last s) = segment_head t s
joined_head t (joined s u e h j) = let first = segment_head s h in (first.0, first.1 ++ dot ∷ u, e ∙ ap (λ (v : List ℕ). v ++ dot ∷ u) first.2, first.3)

-- no segment goes on with a dot behind a segment
no_dot : (a b m : List ℕ) → IsSegment a → IsSegment b → b ≡ a ++ dot ∷ m → ⊥
no_dot a b m (plain c cs e h p) (plain d ds f k q) g =
    let all : d ∷ ds ≡ c ∷ (cs ++ dot ∷ m) = sym f ∙ g ∙ ap (λ (t : List ℕ). t ++ dot ∷ m) e in
    let tails : ds ≡ cs ++ dot ∷ m = cc in
    let pass = pass_behind is_plain cs (dot ∷ m) (subst (Pass is_plain) tails q) in
    let bad : false ≡ true = pass.0 in cc
no_dot a b m (plain c cs e h p) (quoted name f q) g =
    let all : 39 ∷ (name ++ 39 ∷ []) ≡ c ∷ (cs ++ dot ∷ m) = sym f ∙ g ∙ ap (λ (t : List ℕ). t ++ dot ∷ m) e in
    let same : c ≡ 39 = cc in let bad : false ≡ true = ap begins_plain (sym same) ∙ h in cc
no_dot a b m (quoted name e p) (plain d ds f k q) g =
    let all : d ∷ ds ≡ 39 ∷ ((name ++ 39 ∷ []) ++ dot ∷ m) = sym f ∙ g ∙ ap (λ (t : List ℕ). t ++ dot ∷ m) e in
    let same : d ≡ 39 = cc in let bad : false ≡ true = ap begins_plain (sym same) ∙ k in cc
no_dot a b m (quoted name e p) (quoted other f q) g =
    let all : 39 ∷ (other ++ 39 ∷ []) ≡ 39 ∷ ((name ++ 39 ∷ []) ++ dot ∷ m) = sym f ∙ g ∙ ap (λ (t : List ℕ). t ++ dot ∷ m) e in
    let tails : other ++ 39 ∷ [] ≡ (name ++ 39 ∷ []) ++ dot ∷ m = cc in
    let bad : [] ≡ dot ∷ m = (one_name other name [] (dot ∷ m) q p (tails ∙ append_assoc name (39 ∷ []) (dot ∷ m))).1 in cc

-- a joined front ends in the first segment, or goes on behind it with a dot
pub joined_past : (s r text rest : List ℕ) → Longest IsSegment s r → s ++ r ≡ text ++ rest → IsJoined text → (length text ≤ length s) ⊎ ((u : List ℕ) × IsJoined u × (r ≡ dot ∷ (u ++ rest)) × (length text ≡ suc (length s + length u)))
joined_past s r text rest l e (last h) = inl (longest_front IsSegment s r text rest l e h)
joined_past s r text rest l e (joined a u parts h j) =
    let whole : s ++ r ≡ a ++ (dot ∷ (u ++ rest)) = e ∙ ap (λ (t : List ℕ). t ++ rest) parts ∙ append_assoc a (dot ∷ u) rest in
    elim (fronts s r a (dot ∷ (u ++ rest)) whole) [
      | inl f ↦ let none = l.ends f.0 (dot ∷ (u ++ rest)) f.2 (subst IsSegment f.1 h) in
          inr (u, j, f.2 ∙ ap (λ (m : List ℕ). m ++ dot ∷ (u ++ rest)) none, lengths (f.1 ∙ ap (λ (m : List ℕ). s ++ m) none ∙ append-nil s))
      | inr f ↦ other f.0 f.1 f.2
    ]
  where
    lengths : a ≡ s → length text ≡ suc (length s + length u)
    lengths same = let n = ap length parts in let k = length-append a (dot ∷ u) in let m = ap length same in omega (arith, n, k, m)

    other : (m : List ℕ) → s ≡ a ++ m → dot ∷ (u ++ rest) ≡ m ++ r → (length text ≤ length s) ⊎ ((v : List ℕ) × IsJoined v × (r ≡ dot ∷ (v ++ rest)) × (length text ≡ suc (length s + length v)))
    other [] same next = inr (u, j, sym next, lengths (sym (same ∙ append-nil a)))
    other (x ∷ m) same next = let here : x ≡ dot = cc in absurd (no_dot a s m h l.is (same ∙ ap (λ (y : ℕ). a ++ y ∷ m) here))

pub joined_first : (u : List ℕ) → IsJoined u → (a : List ℕ) × (m : List ℕ) × (u ≡ a ++ m) × IsSegment a
joined_first u (last s) = (u, [], sym (append-nil u), s)
joined_first u (joined s v e h j) = (s, dot ∷ v, e, h)

joined_with : (a b : List ℕ) (t : List ℕ) → IsJoined a → IsJoined b → t ≡ a ++ dot ∷ b → IsJoined t
joined_with a b t (last s) k e = joined a b e s k
joined_with a b t (joined s u f h j) k e = joined s (u ++ dot ∷ b) (e ∙ ap (λ (v : List ℕ). v ++ dot ∷ b) f ∙ append_assoc s (dot ∷ u) (dot ∷ b)) h (joined_with u b _ j k refl)

-- the segments so far, and what any joined front has beyond them
pub record Joining (bytes : List ℕ) (at to : ℕ) : Type 0 where
  pub order : at < to
  pub within : to ≤ length bytes
  pub so_far : IsJoined (part bytes at to)
  pub most : (text rest : List ℕ) → drop at bytes ≡ text ++ rest → IsJoined text → (length text ≤ to - at) ⊎ ((u : List ℕ) × IsJoined u × (drop to bytes ≡ dot ∷ (u ++ rest)) × (length text ≡ suc ((to - at) + length u)))

pub joining_first : (bytes : List ℕ) (at to : ℕ) → at < to → to ≤ length bytes → Longest IsSegment (part bytes at to) (drop to bytes) → Joining bytes at to
joining_first bytes at to order within l = record {
  order = order;
  within = within;
  so_far = last l.is;
  most = λ text rest e j. elim (joined_past (part bytes at to) (drop to bytes) text rest l (sym (parts bytes at to (omega arith)) ∙ e) j) [
    | inl short ↦ inl (omega (arith, short, size))
    | inr more ↦ inr (more.0, more.1, more.2, omega (arith, more.3, size))
  ];
} where
  size : length (part bytes at to) ≡ to - at
  size = part_length bytes at to (omega arith) within

module _ (bytes : List ℕ) (at to : ℕ) (j : Joining bytes at to) where
  pub joining_done : ((u rest : List ℕ) → drop to bytes ≡ dot ∷ (u ++ rest) → IsJoined u → ⊥) → Longest IsJoined (part bytes at to) (drop to bytes)
  joining_done none = longest_of IsJoined (part bytes at to) (drop to bytes) j.so_far
      (λ text rest e k. elim (j.most text rest (parts bytes at to (omega (arith, j.order)) ∙ e) k) [
        | inl short ↦ let size = part_length bytes at to (omega (arith, j.order)) j.within in omega (arith, short, size)
        | inr more ↦ absurd (none more.0 rest more.2 more.1)
      ])

  pub no_dot_next : (slice_index bytes to ≡ dot → ⊥) → Longest IsJoined (part bytes at to) (drop to bytes)
  no_dot_next other = joining_done (λ u rest e k. other (front_byte bytes to dot (u ++ rest) e).0)

  pub no_segment_next : EndsLongest IsSegment bytes (suc to) (suc to) → Longest IsJoined (part bytes at to) (drop to bytes)
  no_segment_next s = joining_done (λ u rest e k. let first = joined_first u k in
      s.none (omega arith) first.0 (first.1 ++ rest) ((front_byte bytes to dot (u ++ rest) e).1 ∙ ap (λ (t : List ℕ). t ++ rest) first.2 ∙ append_assoc first.0 first.1 rest) first.3)

  module _ (next : ℕ) (is : slice_index bytes to ≡ dot) (below : to < length bytes) (s : EndsLongest IsSegment bytes (suc to) next) (order : suc to < next) where
    l : Longest IsSegment (part bytes (suc to) next) (drop next bytes)
    l = s.some order

    parts_next : part bytes at next ≡ part bytes at to ++ dot ∷ part bytes (suc to) next
    parts_next = part_more bytes at to next (omega (arith, j.order)) (omega (arith, order)) s.within
        ∙ ap (λ (t : List ℕ). part bytes at to ++ t) (part_cons bytes to next (omega (arith, order)) below ∙ ap (λ (x : ℕ). x ∷ part bytes (suc to) next) is)

    most_next : (text rest : List ℕ) → drop at bytes ≡ text ++ rest → IsJoined text → (length text ≤ next - at) ⊎ ((u : List ℕ) × IsJoined u × (drop next bytes ≡ dot ∷ (u ++ rest)) × (length text ≡ suc ((next - at) + length u)))
    most_next text rest e k = elim (j.most text rest e k) [
      | inl short ↦ inl (omega (arith, short, order, j.order))
      | inr more ↦ further more.0 more.1 (front_byte bytes to dot (more.0 ++ rest) more.2).1 more.3
    ] where
      size : length (part bytes (suc to) next) ≡ next - suc to
      size = part_length bytes (suc to) next s.order s.within

      further : (u : List ℕ) → IsJoined u → drop (suc to) bytes ≡ u ++ rest → length text ≡ suc ((to - at) + length u)
          → (length text ≤ next - at) ⊎ ((v : List ℕ) × IsJoined v × (drop next bytes ≡ dot ∷ (v ++ rest)) × (length text ≡ suc ((next - at) + length v)))
      further u h f n = elim (joined_past (part bytes (suc to) next) (drop next bytes) u rest l (sym (parts bytes (suc to) next s.order) ∙ f) h) [
        | inl short ↦ inl (omega (arith, short, size, n, order, j.order))
        | inr more ↦ inr (more.0, more.1, more.2, omega (arith, more.3, size, n, order, j.order))
      ]

    pub joining_on : Joining bytes at next
    joining_on = record {
      order = omega (arith, order, j.order);
      within = s.within;
      so_far = joined_with (part bytes at to) (part bytes (suc to) next) (part bytes at next) j.so_far (last l.is) parts_next;
      most = most_next;
    }

head_word : (t more : List ℕ) (c : ℕ) (cs : List ℕ) → IsJoined t → t ++ more ≡ c ∷ cs → begins_segment c ≡ true
head_word t more c cs j e = let h = joined_head t j in let all : h.0 ∷ (h.1 ++ more) ≡ c ∷ cs = ap (λ (u : List ℕ). u ++ more) (sym h.2) ∙ e in let same : h.0 ≡ c = cc in ap begins_segment (sym same) ∙ h.3

pub word_longest : (t r : List ℕ) → Longest IsJoined t r → Longest IsWord t r
word_longest t r l = record { is = segments l.is; ends = λ more left e w. goes more left e w } where
  goes : (more left : List ℕ) → r ≡ more ++ left → IsWord (t ++ more) → more ≡ []
  goes more left e (segments j) = l.ends more left e j
  goes more left e (initializer f) = absurd (let bad : false ≡ true = head_word t more 60 (codes "init>") l.is f in cc)
  goes more left e (class_initializer f) = absurd (let bad : false ≡ true = head_word t more 60 (codes "clinit>") l.is f in cc)
