-- Strings: where they end.
use Rattle.std.proofs.Common.{◌≡◌, ◌⊎◌, inl, inr, ℕ, suc, ◌+◌, ◌-◌, ◌<◌, ◌≤◌, true, false, List, [], ◌∷◌, ◌++◌, length, take, drop, slice_index, sym, ap, subst, ◌∙◌, arith, append_assoc}
use Rattle.std.proofs.lemmas.List.{drop_all}
use Rattle.jimple_lex.specs.Bytes.{is_literal, double_quote, backslash, line_feed}
use Rattle.jimple_lex.specs.Forms.{IsInside, empty, literal, escaped, IsString}
use Rattle.jimple_lex.specs.Ends.{Ends, part}
use Rattle.jimple_lex.proofs.Parts.{part_cons, part_more, ends_some}
use Rattle.jimple_lex.proofs.Segments.{front_byte}
use Rattle.jimple_lex.proofs.Places.{part_one}

inside_with : (a b : List ℕ) → IsInside a → IsInside b → IsInside (a ++ b)
inside_with a b empty k = k
inside_with a b (literal {cs = cs} t j) k = literal t (inside_with cs b j k)
inside_with a b (escaped {cs = cs} n j) k = escaped n (inside_with cs b j k)

-- what goes on inside a string, by its first byte
pub inside_on : (more rest whole : List ℕ) → IsInside more → whole ≡ more ++ double_quote ∷ rest
    → (whole ≡ double_quote ∷ rest) ⊎ (((c : ℕ) × (left : List ℕ) × (whole ≡ c ∷ (left ++ double_quote ∷ rest)) × (is_literal c ≡ true) × IsInside left)
    ⊎ ((c : ℕ) × (left : List ℕ) × (whole ≡ backslash ∷ c ∷ (left ++ double_quote ∷ rest)) × (c ≡ line_feed → ⊥) × IsInside left))
inside_on more rest whole empty e = inl e
inside_on more rest whole (literal {c = c} {cs = cs} t j) e = inr (inl (c, cs, e, t, j))
inside_on more rest whole (escaped {c = c} {cs = cs} n j) e = inr (inr (c, cs, e, n, j))

-- the string so far, and what any string has beyond it
pub record InString (bytes : List ℕ) (at to : ℕ) : Type 0 where
  pub order : at < to
  pub within : to ≤ length bytes
  pub so_far : IsInside (part bytes (suc at) to)
  pub on : (inside rest : List ℕ) → drop (suc at) bytes ≡ inside ++ double_quote ∷ rest → IsInside inside → (more : List ℕ) × IsInside more × (drop to bytes ≡ more ++ double_quote ∷ rest)

pub begun : (bytes : List ℕ) (at : ℕ) → at < length bytes → InString bytes at (at + 1)
begun bytes at below = let one : at + 1 ≡ suc at = omega arith in
    subst (InString bytes at) (sym one) (record {
      order = omega arith;
      within = omega arith;
      so_far = subst IsInside (sym (ap (λ (n : ℕ). take n (drop (suc at) bytes)) (let none : suc at - suc at ≡ 0 = omega arith in none))) empty;
      on = λ inside rest e j. (inside, j, e);
    })

pub literal_no_quote : (c : ℕ) → is_literal c ≡ true → c ≡ 34 → ⊥
literal_no_quote c t e = let bad : true ≡ false = sym t ∙ ap is_literal e in cc

pub literal_no_slash : (c : ℕ) → is_literal c ≡ true → c ≡ 92 → ⊥
literal_no_slash c t e = let bad : true ≡ false = sym t ∙ ap is_literal e in cc

literal_no_end : (c : ℕ) → is_literal c ≡ true → c ≡ 10 → ⊥
literal_no_end c t e = let bad : true ≡ false = sym t ∙ ap is_literal e in cc

is_literal_by : (c : ℕ) → (c ≡ 34 → ⊥) → (c ≡ 92 → ⊥) → (c ≡ 10 → ⊥) → is_literal c ≡ true
is_literal_by c a b d = grind arith

module _ (bytes : List ℕ) (at to : ℕ) (s : InString bytes at to) where
  pub no_end : length bytes ≤ to → (text rest : List ℕ) → drop at bytes ≡ text ++ rest → IsString text → ⊥
  no_end over text rest e t =
      let f = front_byte bytes at double_quote ((t.inside ++ double_quote ∷ []) ++ rest) (e ∙ ap (λ (u : List ℕ). u ++ rest) t.between_quotes) in
      let m = s.on t.inside rest (f.1 ∙ append_assoc t.inside (double_quote ∷ []) rest) t.unbroken in
      let none : [] ≡ m.0 ++ double_quote ∷ rest = sym (drop_all to bytes over) ∙ m.2 in
      nothing m.0 rest none
    where
      nothing : (m r : List ℕ) → [] ≡ m ++ double_quote ∷ r → ⊥
      nothing [] r e = cc
      nothing (x ∷ m) r e = cc

  -- no string where the next bytes can't stand in one
  none_by : ((more rest : List ℕ) → IsInside more → drop to bytes ≡ more ++ double_quote ∷ rest → ⊥) → (text rest : List ℕ) → drop at bytes ≡ text ++ rest → IsString text → ⊥
  none_by bad text rest e t =
      let f = front_byte bytes at double_quote ((t.inside ++ double_quote ∷ []) ++ rest) (e ∙ ap (λ (u : List ℕ). u ++ rest) t.between_quotes) in
      let m = s.on t.inside rest (f.1 ∙ append_assoc t.inside (double_quote ∷ []) rest) t.unbroken in
      bad m.0 rest m.1 m.2

  module _ (below : to < length bytes) where
    pub line_ends : slice_index bytes to ≡ 10 → (text rest : List ℕ) → drop at bytes ≡ text ++ rest → IsString text → ⊥
    line_ends is = none_by (λ more rest j e. elim (inside_on more rest (drop to bytes) j e) [
      | inl q ↦ let f = front_byte bytes to 34 rest q in let bad : ◌≡◌ {A = ℕ} 10 34 = sym is ∙ f.0 in omega arith
      | inr (inl q) ↦ let f = front_byte bytes to q.0 (q.1 ++ 34 ∷ rest) q.2 in literal_no_end q.0 q.3 (sym f.0 ∙ is)
      | inr (inr q) ↦ let f = front_byte bytes to 92 (q.0 ∷ (q.1 ++ 34 ∷ rest)) q.2 in let bad : ◌≡◌ {A = ℕ} 10 92 = sym is ∙ f.0 in omega arith
    ])

    pub slash_ends : slice_index bytes to ≡ 92 → (suc to < length bytes → slice_index bytes (suc to) ≡ 10) → (text rest : List ℕ) → drop at bytes ≡ text ++ rest → IsString text → ⊥
    slash_ends is next = none_by (λ more rest j e. elim (inside_on more rest (drop to bytes) j e) [
      | inl q ↦ let f = front_byte bytes to 34 rest q in let bad : ◌≡◌ {A = ℕ} 92 34 = sym is ∙ f.0 in omega arith
      | inr (inl q) ↦ let f = front_byte bytes to q.0 (q.1 ++ 34 ∷ rest) q.2 in literal_no_slash q.0 q.3 (sym f.0 ∙ is)
      | inr (inr q) ↦ let f = front_byte bytes to 92 (q.0 ∷ (q.1 ++ 34 ∷ rest)) q.2 in let g = front_byte bytes (suc to) q.0 (q.1 ++ 34 ∷ rest) f.1 in q.3 (sym g.0 ∙ next g.2)
    ])

    pub quote_ends : at < length bytes → slice_index bytes at ≡ 34 → slice_index bytes to ≡ 34 → Ends (λ text rest. IsString text) bytes at (to + 1)
    quote_ends inside first is = let one : to + 1 ≡ suc to = omega arith in
        subst (Ends (λ text rest. IsString text) bytes at) (sym one)
        (ends_some (λ text rest. IsString text) bytes at (suc to) (omega (arith, s.order)) (omega (arith, below)) (record { inside = part bytes (suc at) to; between_quotes = whole; unbroken = s.so_far }))
      where
        whole : part bytes at (suc to) ≡ 34 ∷ (part bytes (suc at) to ++ 34 ∷ [])
        whole = part_cons bytes at (suc to) (omega (arith, s.order)) inside ∙ ap (λ (x : ℕ). x ∷ part bytes (suc at) (suc to)) first
            ∙ ap (λ (t : List ℕ). 34 ∷ t) (part_more bytes (suc at) to (suc to) s.order (omega arith) (omega (arith, below)) ∙ ap (λ (t : List ℕ). part bytes (suc at) to ++ t) (part_one bytes to below ∙ ap (λ (x : ℕ). x ∷ []) is))

    pub literal_on : (slice_index bytes to ≡ 34 → ⊥) → (slice_index bytes to ≡ 10 → ⊥) → (slice_index bytes to ≡ 92 → ⊥) → InString bytes at (to + 1)
    literal_on a b d = let one : to + 1 ≡ suc to = omega arith in
        subst (InString bytes at) (sym one) (record {
          order = omega (arith, s.order);
          within = omega (arith, below);
          so_far = subst IsInside (sym (part_more bytes (suc at) to (suc to) s.order (omega arith) (omega (arith, below)) ∙ ap (λ (t : List ℕ). part bytes (suc at) to ++ t) (part_one bytes to below)))
              (inside_with (part bytes (suc at) to) (slice_index bytes to ∷ []) s.so_far (literal (is_literal_by (slice_index bytes to) a d b) empty));
          on = λ inside rest e j. let m = s.on inside rest e j in go m.0 rest m.1 m.2;
        })
      where
        go : (more rest : List ℕ) → IsInside more → drop to bytes ≡ more ++ 34 ∷ rest → (left : List ℕ) × IsInside left × (drop (suc to) bytes ≡ left ++ 34 ∷ rest)
        go more rest j e = elim (inside_on more rest (drop to bytes) j e) [
          | inl q ↦ absurd (a (front_byte bytes to 34 rest q).0)
          | inr (inl q) ↦ (q.1, q.4, (front_byte bytes to q.0 (q.1 ++ 34 ∷ rest) q.2).1)
          | inr (inr q) ↦ absurd (d (front_byte bytes to 92 (q.0 ∷ (q.1 ++ 34 ∷ rest)) q.2).0)
        ]

    pub escape_on : slice_index bytes to ≡ 92 → suc to < length bytes → (slice_index bytes (suc to) ≡ 10 → ⊥) → InString bytes at (to + 2)
    escape_on is next n = let two : to + 2 ≡ suc (suc to) = omega arith in
        subst (InString bytes at) (sym two) (record {
          order = omega (arith, s.order);
          within = omega (arith, next);
          so_far = subst IsInside (sym pieces) (inside_with (part bytes (suc at) to) (92 ∷ slice_index bytes (suc to) ∷ []) s.so_far (escaped n empty));
          on = λ inside rest e j. let m = s.on inside rest e j in go m.0 rest m.1 m.2;
        })
      where
        pieces : part bytes (suc at) (suc (suc to)) ≡ part bytes (suc at) to ++ 92 ∷ slice_index bytes (suc to) ∷ []
        pieces = part_more bytes (suc at) to (suc (suc to)) s.order (omega arith) (omega (arith, next))
            ∙ ap (λ (t : List ℕ). part bytes (suc at) to ++ t) (part_cons bytes to (suc (suc to)) (omega arith) below ∙ ap (λ (x : ℕ). x ∷ part bytes (suc to) (suc (suc to))) is ∙ ap (λ (t : List ℕ). 92 ∷ t) (part_one bytes (suc to) next))

        go : (more rest : List ℕ) → IsInside more → drop to bytes ≡ more ++ 34 ∷ rest → (left : List ℕ) × IsInside left × (drop (suc (suc to)) bytes ≡ left ++ 34 ∷ rest)
        go more rest j e = elim (inside_on more rest (drop to bytes) j e) [
          | inl q ↦ absurd (let bad : ◌≡◌ {A = ℕ} 92 34 = sym is ∙ (front_byte bytes to 34 rest q).0 in omega arith)
          | inr (inl q) ↦ absurd (literal_no_slash q.0 q.3 (sym (front_byte bytes to q.0 (q.1 ++ 34 ∷ rest) q.2).0 ∙ is))
          | inr (inr q) ↦ (q.1, q.4, (front_byte bytes (suc to) q.0 (q.1 ++ 34 ∷ rest) (front_byte bytes to 92 (q.0 ∷ (q.1 ++ 34 ∷ rest)) q.2).1).1)
        ]
