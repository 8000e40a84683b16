-- Comments: where they end.
use Rattle.std.proofs.Common.{◌≡◌, ℕ, suc, ◌+◌, ◌-◌, ◌<◌, ◌≤◌, Bool, true, false, ◌&&◌, ◌==◌, not, List, [], ◌∷◌, ◌++◌, length, drop, slice_index, sym, ap, subst, refl, ◌∙◌, arith, append_assoc, length-append, drop-drop, codes}
use Rattle.std.specs.List.{AllByRecursion}
use Rattle.jimple_lex.specs.Bytes.{line_feed}
use Rattle.jimple_lex.specs.Forms.{IsComment, line, block, AtLineEnd}
use Rattle.jimple_lex.specs.Ends.{Ends, EndsRun, part}
use Rattle.jimple_lex.proofs.Parts.{NotNext, Pass, parts, part_cons, part_length, part_more, run_pass, run_next, ends_some, ends_none}
use Rattle.jimple_lex.proofs.Segments.{front_byte}
use Rattle.jimple_lex.proofs.Places.{within_by, part_one}

abbrev pub no_feed : ℕ → Bool
no_feed c = not (c == line_feed)

no_feeds : (cs : List ℕ) → Pass no_feed cs → AllByRecursion (λ x. x ≡ line_feed → ⊥) cs
no_feeds [] p = tt
no_feeds (c ∷ cs) p = (λ same. let bad : true ≡ false = sym p.0 ∙ ap no_feed same in cc, no_feeds cs p.1)

feed_by : (c : ℕ) → no_feed c ≡ false → c ≡ line_feed
feed_by c n = grind arith

line_end_by : (rest : List ℕ) → NotNext no_feed rest → AtLineEnd rest
line_end_by [] n = tt
line_end_by (c ∷ rest) n = feed_by c n

drop_front : (a t : List ℕ) → drop (length a) (a ++ t) ≡ t
drop_front [] t = refl
drop_front (x ∷ a) t = drop_front a t

-- two bytes somewhere behind the front
two_behind : (bytes : List ℕ) (from x y : ℕ) (before after : List ℕ) → drop from bytes ≡ before ++ x ∷ y ∷ after
    → (slice_index bytes (from + length before) ≡ x) × (slice_index bytes (suc (from + length before)) ≡ y) × (suc (from + length before) < length bytes)
two_behind bytes from x y before after e =
    let f = front_byte bytes (from + length before) x (y ∷ after) (sym (drop-drop _ _ bytes) ∙ ap (drop (length before)) e ∙ drop_front before (x ∷ y ∷ after)) in
    let g = front_byte bytes (suc (from + length before)) y after f.1 in (f.0, g.0, g.2)

abbrev pub closes : List ℕ → ℕ → Bool
closes bytes k = (slice_index bytes k == 42) && (slice_index bytes (suc k) == 47)

abbrev pub Inside : List ℕ → ℕ → ℕ → Type 0
Inside bytes from to = EndsRun (λ k. not (closes bytes k)) (length bytes) from to

closes_by : (a b : ℕ) → ((a == 42) && (b == 47)) ≡ true → (a ≡ 42) × (b ≡ 47)
closes_by a b e = (grind arith, grind arith)

not_closed : (bytes : List ℕ) (k : ℕ) → not (closes bytes k) ≡ true → slice_index bytes k ≡ 42 → slice_index bytes (suc k) ≡ 47 → ⊥
not_closed bytes k n a b = neither (slice_index bytes k) (slice_index bytes (suc k)) n a b where
  neither : (x y : ℕ) → not ((x == 42) && (y == 47)) ≡ true → x ≡ 42 → y ≡ 47 → ⊥
  neither x y n a b = let bad : false ≡ true = sym (ap (λ (v : ℕ). not ((v == 42) && (y == 47))) a ∙ ap (λ (v : ℕ). not (v == 47)) b) ∙ n in cc

module _ (bytes : List ℕ) (at to : ℕ) (below : at < length bytes) (slash : slice_index bytes at ≡ 47) where
  two_parts : (x : ℕ) → slice_index bytes (suc at) ≡ x → suc at < length bytes → suc (suc at) ≤ to → part bytes at to ≡ 47 ∷ x ∷ part bytes (suc (suc at)) to
  two_parts x is next order = part_cons bytes at to (omega (arith, order)) below ∙ ap (λ (y : ℕ). y ∷ part bytes (suc at) to) slash
      ∙ ap (λ (t : List ℕ). 47 ∷ t) (part_cons bytes (suc at) to (omega (arith, order)) next ∙ ap (λ (y : ℕ). y ∷ part bytes (suc (suc at)) to) is)

  line_here : slice_index bytes (suc at) ≡ 47 → EndsRun (λ k. no_feed (slice_index bytes k)) (length bytes) (suc (suc at)) to → Ends IsComment bytes at to
  line_here next r =
      let inside = within_by (λ c. c == 47) bytes (suc at) refl (ap (λ (c : ℕ). c == 47) next) in
      ends_some IsComment bytes at to (omega (arith, r.order)) r.within
      (line (part bytes (suc (suc at)) to) (two_parts 47 next inside r.order) (no_feeds _ (run_pass no_feed bytes (suc (suc at)) to r)) (line_end_by _ (run_next no_feed bytes (suc (suc at)) to r)))

  pub line_there : slice_index bytes (at + 1) ≡ 47 → EndsRun (λ k. no_feed (slice_index bytes k)) (length bytes) (at + 2) to → Ends IsComment bytes at to
  line_there next r = let one : at + 1 ≡ suc at = omega arith in let two : at + 2 ≡ suc (suc at) = omega arith in
      line_here (subst (λ (k : ℕ). slice_index bytes k ≡ 47) one next) (subst (λ (k : ℕ). EndsRun (λ k. no_feed (slice_index bytes k)) (length bytes) k to) two r)

  block_here : slice_index bytes (suc at) ≡ 42 → Inside bytes (suc (suc at)) to → to < length bytes → Ends IsComment bytes at (suc (suc to))
  block_here next r short =
      let inside = within_by (λ c. c == 42) bytes (suc at) refl (ap (λ (c : ℕ). c == 42) next) in
      let close = closes_by (slice_index bytes to) (slice_index bytes (suc to)) (closed (closes bytes to) (r.next short)) in
      let last = within_by (λ c. c == 47) bytes (suc to) refl (ap (λ (c : ℕ). c == 47) close.1) in
      ends_some IsComment bytes at (suc (suc to)) (omega (arith, r.order)) (omega (arith, last))
      (block (part bytes (suc (suc at)) to) (part_two inside last close.0 close.1) none)
    where
      closed : (b : Bool) → not b ≡ false → b ≡ true
      closed true e = refl
      closed false e = absurd (let bad : true ≡ false = e in cc)

      part_two : suc at < length bytes → suc to < length bytes → slice_index bytes to ≡ 42 → slice_index bytes (suc to) ≡ 47
          → part bytes at (suc (suc to)) ≡ 47 ∷ 42 ∷ (part bytes (suc (suc at)) to ++ 42 ∷ 47 ∷ [])
      part_two inside last a b =
          part_cons bytes at (suc (suc to)) (omega (arith, r.order)) below ∙ ap (λ (y : ℕ). y ∷ part bytes (suc at) (suc (suc to))) slash
          ∙ ap (λ (t : List ℕ). 47 ∷ t) (part_cons bytes (suc at) (suc (suc to)) (omega (arith, r.order)) inside ∙ ap (λ (y : ℕ). y ∷ part bytes (suc (suc at)) (suc (suc to))) next)
          ∙ ap (λ (t : List ℕ). 47 ∷ 42 ∷ t) (part_more bytes (suc (suc at)) to (suc (suc to)) r.order (omega arith) (omega (arith, last))
          ∙ ap (λ (t : List ℕ). part bytes (suc (suc at)) to ++ t) (part_cons bytes to (suc (suc to)) (omega arith) (omega (arith, last)) ∙ ap (λ (y : ℕ). y ∷ part bytes (suc to) (suc (suc to))) a
          ∙ ap (λ (t : List ℕ). 42 ∷ t) (part_one bytes (suc to) last ∙ ap (λ (y : ℕ). y ∷ []) b)))

      none : (before after : List ℕ) → part bytes (suc (suc at)) to ≡ before ++ (codes "*/" ++ after) → ⊥
      none before after e =
          let whole : drop (suc (suc at)) bytes ≡ before ++ 42 ∷ 47 ∷ (after ++ drop to bytes) =
          parts bytes (suc (suc at)) to r.order ∙ ap (λ (t : List ℕ). t ++ drop to bytes) e ∙ append_assoc before (42 ∷ 47 ∷ after) (drop to bytes) in
          let f = two_behind bytes (suc (suc at)) 42 47 before (after ++ drop to bytes) whole in
          let n = ap length e in let m = length-append before (42 ∷ 47 ∷ after) in let k = part_size in
          not_closed bytes (suc (suc at) + length before) (r.each (suc (suc at) + length before) (omega arith) (omega (arith, n, m, k, r.order))) f.0 f.1
        where
          part_size : length (part bytes (suc (suc at)) to) ≡ to - suc (suc at)
          part_size = part_length bytes (suc (suc at)) to r.order r.within

  pub block_there : slice_index bytes (at + 1) ≡ 42 → Inside bytes (at + 2) to → to < length bytes → Ends IsComment bytes at (to + 2)
  block_there next r short = let one : at + 1 ≡ suc at = omega arith in let two : at + 2 ≡ suc (suc at) = omega arith in let three : to + 2 ≡ suc (suc to) = omega arith in
      subst (Ends IsComment bytes at) (sym three) (block_here (subst (λ (k : ℕ). slice_index bytes k ≡ 42) one next) (subst (λ (k : ℕ). Inside bytes k to) two r) short)

  unended_here : slice_index bytes (suc at) ≡ 42 → Inside bytes (suc (suc at)) to → length bytes ≤ to → (text rest : List ℕ) → drop at bytes ≡ text ++ rest → IsComment text rest → ⊥
  unended_here next r over text rest e (line inside f p q) =
      let g = front_byte bytes at 47 (47 ∷ (inside ++ rest)) (e ∙ ap (λ (t : List ℕ). t ++ rest) f) in
      let h = front_byte bytes (suc at) 47 (inside ++ rest) g.1 in
      let bad : ◌≡◌ {A = ℕ} 42 47 = sym next ∙ h.0 in omega arith
  unended_here next r over text rest e (block inside f p) =
      let g = front_byte bytes at 47 (42 ∷ ((inside ++ 42 ∷ 47 ∷ []) ++ rest)) (e ∙ ap (λ (t : List ℕ). t ++ rest) f) in
      let h = front_byte bytes (suc at) 42 ((inside ++ 42 ∷ 47 ∷ []) ++ rest) g.1 in
      let k = two_behind bytes (suc (suc at)) 42 47 inside rest (h.1 ∙ append_assoc inside (42 ∷ 47 ∷ []) rest) in
      not_closed bytes (suc (suc at) + length inside) (r.each (suc (suc at) + length inside) (omega arith) (omega (arith, k.2, over))) k.0 k.1

  pub unended_there : slice_index bytes (at + 1) ≡ 42 → Inside bytes (at + 2) to → length bytes ≤ to → Ends IsComment bytes at at
  unended_there next r over = let one : at + 1 ≡ suc at = omega arith in let two : at + 2 ≡ suc (suc at) = omega arith in
      ends_none IsComment bytes at (omega (arith, below)) (unended_here (subst (λ (k : ℕ). slice_index bytes k ≡ 42) one next) (subst (λ (k : ℕ). Inside bytes k to) two r) over)

-- no comment begins there
pub no_comment : (bytes : List ℕ) (at : ℕ) → at < length bytes → (slice_index bytes at ≡ 47 → (slice_index bytes (at + 1) ≡ 47 → ⊥) × (slice_index bytes (at + 1) ≡ 42 → ⊥)) → Ends IsComment bytes at at
no_comment bytes at below n = ends_none IsComment bytes at (omega (arith, below)) (none (subst (λ (k : ℕ). slice_index bytes at ≡ 47 → (slice_index bytes k ≡ 47 → ⊥) × (slice_index bytes k ≡ 42 → ⊥)) one n)) where
  one : at + 1 ≡ suc at
  one = omega arith

  none : (slice_index bytes at ≡ 47 → (slice_index bytes (suc at) ≡ 47 → ⊥) × (slice_index bytes (suc at) ≡ 42 → ⊥)) → (text rest : List ℕ) → drop at bytes ≡ text ++ rest → IsComment text rest → ⊥
  none n text rest e (line inside f p q) =
      let g = front_byte bytes at 47 (47 ∷ (inside ++ rest)) (e ∙ ap (λ (t : List ℕ). t ++ rest) f) in
      (n g.0).0 (front_byte bytes (suc at) 47 (inside ++ rest) g.1).0
  none n text rest e (block inside f p) =
      let g = front_byte bytes at 47 (42 ∷ ((inside ++ 42 ∷ 47 ∷ []) ++ rest)) (e ∙ ap (λ (t : List ℕ). t ++ rest) f) in
      (n g.0).1 (front_byte bytes (suc at) 42 ((inside ++ 42 ∷ 47 ∷ []) ++ rest) g.1).0
