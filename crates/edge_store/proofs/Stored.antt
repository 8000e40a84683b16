-- The parts of a store fit each other, step by step.
use Rattle.std.proofs.Common.{◌≡◌, ◌≢◌, ℕ, zero, suc, ◌+◌, ◌-◌, ◌<◌, ◌≤◌, ◌^◌, List, [], ◌∷◌, ◌++◌, Bool, true, false, IsTrue, length, get_or, set, map, replicate, sym, ap, subst, ◌∙◌, arith, inl, inr, ◌⊎◌, refl}
use Rattle.std.specs.Prelude.{Contains, sum_by}
use Rattle.std.proofs.Common.{◌==◌, cond, take}
use Rattle.std.proofs.lemmas.List.{append-nil, append_assoc, replicate-append-replicate, get_or-set_same, get_or-set_other, get_or_past, get_or_default}
use Rattle.std.proofs.lemmas.List.Sums.{sum_by-set, sum_by-cons, sum_by-append, sum_by_more, sum_by-take-le, get_or-le-sum_by}
use Rattle.ifds_model.specs.Runs.{HasCount}
use Rattle.ifds_model.specs.Count.{one_count}
use Rattle.edge_store.specs.declared.page.Page.{Page}
use Rattle.edge_store.specs.Pages.{Spot, spot, edges_of, uses_of, Marked, HasBit, page_of, bit_of, page_with, node_at}
use Rattle.ifds_model.specs.State.{At, IsDistinct}
use Rattle.ifds_model.specs.declared.node.Node.{Node}
use Rattle.edge_store.specs.Pool.{Facts, KeepsUsed, UsedFact}
use Rattle.edge_store.specs.Table.{Pages, no_pages}
use Rattle.edge_store.specs.Adds.{AddsEdge}
use Rattle.edge_store.specs.Store.{Holds, edges_under, table_at, store_of, IsStore, IsPadded, IsFact}
use Rattle.edge_store.proofs.Counted.{count_same, count_more, count_none}
use Rattle.edge_store.proofs.Listed.{same_number_or_not}
use Rattle.edge_store.proofs.Paged.{some_uses, edge_kept, at_once, self_counts, others_count, page_back, bit_back}
use Rattle.edge_store.proofs.Decoded.{marked_of, held_of, edges_once}

module _ {F : Type 0} where
  -- the table of a method holds the edge
  abbrev pub Has : List F → List Pages → ℕ → Spot F → Type 0
  Has facts tables k e = Contains (edges_of facts (table_at tables k).pages (table_at tables k).bits) e

  pub edges_at : (facts : List F) (tables : List Pages) (k : ℕ) → get_or (map (λ (t : Pages). edges_of facts t.pages t.bits) tables) k [] ≡ edges_of facts (table_at tables k).pages (table_at tables k).bits
  unfolding edges_of
  edges_at facts [] k = refl
  edges_at facts (t ∷ tables) zero = refl
  edges_at facts (t ∷ tables) (suc k) = edges_at facts tables k

  pub out : (facts : List F) (tables : List Pages) (k : ℕ) (e : Spot F) → Holds (store_of facts tables) k e → Has facts tables k e
  out facts tables k e h = subst (λ (es : List (Spot F)). Contains es e) (edges_at facts tables k) h

  pub into : (facts : List F) (tables : List Pages) (k : ℕ) (e : Spot F) → Has facts tables k e → Holds (store_of facts tables) k e
  into facts tables k e h = subst (λ (es : List (Spot F)). Contains es e) (sym (edges_at facts tables k)) h

  move : (facts : List F) (a b : Pages) (e : Spot F) → a ≡ b → Contains (edges_of facts a.pages a.bits) e → Contains (edges_of facts b.pages b.bits) e
  move facts a b e same h = subst (λ (t : Pages). Contains (edges_of facts t.pages t.bits) e) same h

  pub nothing : (facts : List F) (e : Spot F) → Contains (edges_of facts [] []) e → ⊥
  unfolding edges_of
  nothing facts e has = let k = has.1 in omega arith

pub room_at : (tables : List Pages) (k : ℕ) → get_or (map (λ (t : Pages). t.room) tables) k 0 ≡ (table_at tables k).room
room_at [] k = refl
room_at (t ∷ tables) zero = refl
room_at (t ∷ tables) (suc k) = room_at tables k

-- a method that has room, or a page, has a table
pub within_room : (tables : List Pages) (k : ℕ) → 0 < (table_at tables k).room → k < length tables
within_room [] k h = absurd (omega arith)
within_room (t ∷ tables) zero h = omega arith
within_room (t ∷ tables) (suc k) h = omega (arith, within_room tables k h)

within_page : (tables : List Pages) (k : ℕ) (p : Page) → Contains (table_at tables k).pages p → k < length tables
within_page [] k p h = absurd (let none = h.1 in omega arith)
within_page (t ∷ tables) zero p h = omega arith
within_page (t ∷ tables) (suc k) p h = omega (arith, within_page tables k p h)

-- a page of a table has a bit
abbrev pub IsFull : Pages → Page → Type 0
IsFull t p = Contains t.pages p → (b : ℕ) × (b < 64) × HasBit t.pages t.bits p b

module _ {F : Type 0} (pool : Facts F) (tables : List Pages) (room : ℕ) (store : IsStore pool tables room) where
  -- each page's fact is used
  pub used_at : (k : ℕ) (p : Page) → Contains (table_at tables k).pages p → 0 < get_or pool.counts p.fact 0
  used_at k p has =
      let below : k < length tables = within_page tables k p has in
      let some = some_uses (table_at tables k).pages p has in
      let part = get_or-le-sum_by (λ (t : Pages). uses_of t.pages p.fact) tables k no_pages below in
      omega (arith, store.counted p.fact, some, part)

  -- the room of a table is part of the whole
  pub room_part : (k : ℕ) → k < length tables → (table_at tables k).room ≤ room
  room_part k below = omega (arith, get_or-le-sum_by (λ (t : Pages). t.room) tables k no_pages below, store.rooms)

  module _ (at : ℕ) (t : Pages) (is : t ≡ get_or tables at t) (within : at < length tables) where
    pub table_is : table_at tables at ≡ t
    table_is = sym (is ∙ get_or_default tables at t no_pages within)

    pub used_there : (p : Page) → Contains t.pages p → 0 < get_or pool.counts p.fact 0
    used_there p has = used_at at p (subst (λ (s : Pages). Contains s.pages p) (sym table_is) has)

    module _ (more : Facts F) (u : Pages) (x : Spot F) (fresh : Bool) (adds : AddsEdge pool more t u x fresh) where
      same_table : table_at (set tables at u) at ≡ u
      same_table = get_or-set_same tables at u no_pages within

      other_table : (k : ℕ) → k ≢ at → table_at (set tables at u) k ≡ table_at tables k
      other_table k other = get_or-set_other tables at k u no_pages other

      pub has_new : IsTrue fresh → Has pool.facts tables at x → ⊥
      has_new is_fresh h = adds.is_new is_fresh (marked_of pool.facts t.pages t.bits x (move pool.facts (table_at tables at) t x table_is h))

      pub has_was : fresh ≡ false → Has pool.facts tables at x
      has_was stale = move pool.facts t (table_at tables at) x (sym table_is) (held_of pool.facts t.pages t.bits x (adds.was stale))

      pub has_there : Has more.facts (set tables at u) at x
      has_there = move more.facts u (table_at (set tables at u) at) x (sym same_table) (held_of more.facts u.pages u.bits x adds.there)

      kept_here : (e : Spot F) → Has pool.facts tables at e → Has more.facts (set tables at u) at e
      kept_here e h = move more.facts u (table_at (set tables at u) at) e (sym same_table)
          (held_of more.facts u.pages u.bits e (adds.kept e (marked_of pool.facts t.pages t.bits e (move pool.facts (table_at tables at) t e table_is h))))

      from_here : (e : Spot F) → Has more.facts (set tables at u) at e → Has pool.facts tables at e ⊎ (e ≡ x)
      from_here e h = elim (adds.from e (marked_of more.facts u.pages u.bits e (move more.facts (table_at (set tables at u) at) u e same_table h))) [
        | inl old ↦ inl (move pool.facts t (table_at tables at) e (sym table_is) (held_of pool.facts t.pages t.bits e old))
        | inr new ↦ inr new
      ]

      kept_other : (k : ℕ) → k ≢ at → (e : Spot F) → Has pool.facts tables k e → Has more.facts (set tables at u) k e
      kept_other k other e h =
          let v : Pages = table_at tables k in
          move more.facts v (table_at (set tables at u) k) e (sym (other_table k other))
          (held_of more.facts v.pages v.bits e (edge_kept pool.facts more.facts v.pages v.pages v.bits v.bits pool.counts 0 x.node x.fact 0 (used_at k) adds.numbers adds.numbers_back (λ q b h. h) e (marked_of pool.facts v.pages v.bits e h)))

      from_other : (k : ℕ) → k ≢ at → (e : Spot F) → Has more.facts (set tables at u) k e → Has pool.facts tables k e
      from_other k other e h =
          let v : Pages = table_at tables k in
          held_of pool.facts v.pages v.bits e (edge_kept more.facts pool.facts v.pages v.pages v.bits v.bits pool.counts 0 x.node x.fact 0 (used_at k) adds.numbers_back adds.numbers (λ q b h. h) e
          (marked_of more.facts v.pages v.bits e (move more.facts (table_at (set tables at u) k) v e (other_table k other) h)))

      pub has_kept : (k : ℕ) (e : Spot F) → Has pool.facts tables k e → Has more.facts (set tables at u) k e
      has_kept k e h = elim (same_number_or_not k at) [
        | inl same ↦ subst (λ (j : ℕ). Has more.facts (set tables at u) j e) (sym same) (kept_here e (subst (λ (j : ℕ). Has pool.facts tables j e) same h))
        | inr other ↦ kept_other k other e h
      ]

      pub has_from : (k : ℕ) (e : Spot F) → Has more.facts (set tables at u) k e → Has pool.facts tables k e ⊎ ((k ≡ at) × (e ≡ x))
      has_from k e h = elim (same_number_or_not k at) [
        | inl same ↦ elim (from_here e (subst (λ (j : ℕ). Has more.facts (set tables at u) j e) same h)) [
          | inl old ↦ inl (subst (λ (j : ℕ). Has pool.facts tables j e) (sym same) old)
          | inr new ↦ inr (same, new)
        ]
        | inr other ↦ inl (from_other k other e h)
      ]

      count_here : (b : Bool) → fresh ≡ b → HasCount (Has more.facts (set tables at u) at) u.held
      count_here true is_fresh = subst (HasCount (Has more.facts (set tables at u) at)) (ap (λ (s : Pages). s.held + 1) table_is ∙ sym (adds.raised is_fresh))
          (count_more (Has pool.facts tables at) (Has more.facts (set tables at u) at) (table_at tables at).held x kept_here from_here has_there (has_new is_fresh) (store.held at))
      count_here false stale = subst (HasCount (Has more.facts (set tables at u) at)) (ap (λ (s : Pages). s.held) table_is ∙ sym (adds.stays stale))
          (count_same (Has pool.facts tables at) (Has more.facts (set tables at u) at) (table_at tables at).held kept_here
          (λ e h. elim (from_here e h) [ inl old ↦ old | inr new ↦ subst (Has pool.facts tables at) (sym new) (has_was stale) ]) (store.held at))

      count_at : (k : ℕ) → HasCount (Has more.facts (set tables at u) k) (table_at (set tables at u) k).held
      count_at k = elim (same_number_or_not k at) [
        | inl same ↦ subst (λ (j : ℕ). HasCount (Has more.facts (set tables at u) j) (table_at (set tables at u) j).held) (sym same)
            (subst (HasCount (Has more.facts (set tables at u) at)) (ap (λ (s : Pages). s.held) (sym same_table)) (count_here fresh refl))
        | inr other ↦ subst (HasCount (Has more.facts (set tables at u) k)) (ap (λ (s : Pages). s.held) (sym (other_table k other)))
            (count_same (Has pool.facts tables k) (Has more.facts (set tables at u) k) (table_at tables k).held (kept_other k other) (from_other k other) (store.held k))
      ]

      full_at : (k : ℕ) (p : Page) → IsFull (table_at (set tables at u) k) p
      full_at k p = elim (same_number_or_not k at) [
        | inl same ↦ subst (λ (j : ℕ). IsFull (table_at (set tables at u) j) p) (sym same) (subst (λ (s : Pages). IsFull s p) (sym same_table) (λ has. elim (adds.full p has) [
          | inl old ↦ let was = subst (λ (s : Pages). IsFull s p) table_is (store.full at p) old in (was.0, was.1, adds.bits p was.0 was.2)
          | inr new ↦ new
        ]))
        | inr other ↦ subst (λ (s : Pages). IsFull s p) (sym (other_table k other)) (store.full k p)
      ]

      once_at : (k : ℕ) → IsDistinct (table_at (set tables at u) k).pages
      once_at k = elim (same_number_or_not k at) [
        | inl same ↦ subst (λ (j : ℕ). IsDistinct (table_at (set tables at u) j).pages) (sym same) (subst (λ (s : Pages). IsDistinct s.pages) (sym same_table) adds.once)
        | inr other ↦ subst (λ (s : Pages). IsDistinct s.pages) (sym (other_table k other)) (store.once k)
      ]

      -- no edge is held twice
      pub add_once : IsDistinct more.facts → (k : ℕ) → IsDistinct (edges_under (store_of more.facts (set tables at u)) k)
      add_once distinct k = subst IsDistinct (sym (edges_at more.facts (set tables at u) k)) (edges_once more.facts (table_at (set tables at u) k).pages (table_at (set tables at u) k).bits distinct (once_at k))

      pub add_store : IsDistinct more.facts → IsStore more (set tables at u) (room - 1)
      add_store distinct =
          let had : t.room ≤ room = subst (λ (s : Pages). s.room ≤ room) table_is (room_part at within) in
          let sums : sum_by (λ (s : Pages). s.room) (set tables at u) + (get_or tables at no_pages).room ≡ sum_by (λ (s : Pages). s.room) tables + u.room = sum_by-set (λ (s : Pages). s.room) tables at u no_pages within in
          let here : (get_or tables at no_pages).room ≡ t.room = ap (λ (s : Pages). s.room) table_is in
          record {
            distinct = distinct;
            counted = λ n.
                let uses = sum_by-set (λ (s : Pages). uses_of s.pages n) tables at u no_pages within in
                let same : uses_of (get_or tables at no_pages).pages n ≡ uses_of t.pages n = ap (λ (s : Pages). uses_of s.pages n) table_is in
                omega (arith, uses, same, adds.counts n, store.counted n);
            once = once_at;
            held = count_at;
            full = full_at;
            rooms = omega (arith, adds.left, store.rooms);
            numbers = omega (arith, adds.left, adds.spare, store.numbers);
            few = omega (arith, adds.left, adds.used, store.few);
          }

      pub room_left : get_or (map (λ (s : Pages). s.room) tables) at 0 ≤ get_or (map (λ (s : Pages). s.room) (set tables at u)) at 0 + 1
      room_left =
          let before : get_or (map (λ (s : Pages). s.room) tables) at 0 ≡ t.room = room_at tables at ∙ ap (λ (s : Pages). s.room) table_is in
          let after : get_or (map (λ (s : Pages). s.room) (set tables at u)) at 0 ≡ u.room = room_at (set tables at u) at ∙ ap (λ (s : Pages). s.room) same_table in
          omega (arith, adds.left)

      pub room_others : (k : ℕ) → k ≢ at → get_or (map (λ (s : Pages). s.room) tables) k 0 ≤ get_or (map (λ (s : Pages). s.room) (set tables at u)) k 0
      room_others k other =
          let same : get_or (map (λ (s : Pages). s.room) (set tables at u)) k 0 ≡ get_or (map (λ (s : Pages). s.room) tables) k 0 = room_at (set tables at u) k ∙ ap (λ (s : Pages). s.room) (other_table k other) ∙ sym (room_at tables k) in
          omega arith

  -- how many edges a method holds
  pub held_count : (k : ℕ) → HasCount (Holds (store_of pool.facts tables) k) (table_at tables k).held
  held_count k = count_same (Has pool.facts tables k) (Holds (store_of pool.facts tables) k) (table_at tables k).held (into pool.facts tables k) (out pool.facts tables k) (store.held k)

  pub held_here : (at : ℕ) (t : Pages) → t ≡ get_or tables at t → at < length tables → HasCount (Holds (store_of pool.facts tables) at) t.held
  held_here at t is within = subst (HasCount (Holds (store_of pool.facts tables) at)) (ap (λ (s : Pages). s.held) (table_is at t is within)) (held_count at)

  pub held_past : (k : ℕ) → length tables ≤ k → HasCount (Holds (store_of pool.facts tables) k) 0
  held_past k past = subst (HasCount (Holds (store_of pool.facts tables) k)) (ap (λ (s : Pages). s.held) (get_or_past tables k no_pages past)) (held_count k)

  -- and that none of them is held twice
  pub edges_here : (at : ℕ) (t : Pages) → t ≡ get_or tables at t → at < length tables → IsDistinct t.pages → IsDistinct (edges_under (store_of pool.facts tables) at)
  edges_here at t is within distinct = subst IsDistinct (sym (edges_at pool.facts tables at ∙ ap (λ (s : Pages). edges_of pool.facts s.pages s.bits) (table_is at t is within)))
      (edges_once pool.facts t.pages t.bits store.distinct distinct)

  pub edges_past : (k : ℕ) → length tables ≤ k → IsDistinct (edges_under (store_of pool.facts tables) k)
  edges_past k past = subst IsDistinct (sym (edges_at pool.facts tables k ∙ ap (λ (s : Pages). edges_of pool.facts s.pages s.bits) (get_or_past tables k no_pages past)))
      (edges_once pool.facts [] [] store.distinct (λ i j d below within same. omega arith))

  pub held_long : (k n : ℕ) → IsDistinct (edges_under (store_of pool.facts tables) k) → HasCount (Holds (store_of pool.facts tables) k) n → n ≡ length (edges_under (store_of pool.facts tables) k)
  held_long k n distinct count =
      let edges : List (Spot F) = edges_under (store_of pool.facts tables) k in
      one_count (Contains edges) n (length edges) count (edges, record { distinct = distinct; sound = λ e has. has; whole = λ e has. has }, refl)

pub empty_store : {F : Type 0} (pool : Facts F) → pool.facts ≡ [] → pool.counts ≡ [] → pool.used ≡ 0 → IsStore pool [] 0
empty_store pool facts counts used = record {
  distinct = subst IsDistinct (sym facts) (λ i j d below within same. omega arith);
  counted = λ n. ap (λ (xs : List ℕ). get_or xs n 0) counts;
  once = λ k i j d below within same. omega arith;
  held = λ k. count_none (Has pool.facts [] k) (nothing pool.facts);
  full = λ k p has. absurd (let none = has.1 in omega arith);
  rooms = refl;
  numbers = omega arith;
  few = omega arith;
}

-- further tables
replicated : (n k : ℕ) → get_or (replicate n no_pages) k no_pages ≡ no_pages
replicated zero k = refl
replicated (suc n) zero = refl
replicated (suc n) (suc k) = replicated n k

pub padded_at : (tables : List Pages) (n k : ℕ) → table_at (tables ++ replicate n no_pages) k ≡ table_at tables k
padded_at [] n k = replicated n k
padded_at (t ∷ tables) n zero = refl
padded_at (t ∷ tables) n (suc k) = padded_at tables n k

no_sum : (f : Pages → ℕ) → f no_pages ≡ 0 → (n : ℕ) → sum_by f (replicate n no_pages) ≡ 0
no_sum f none zero = refl
no_sum f none (suc n) = omega (arith, sum_by-cons f no_pages (replicate n no_pages), no_sum f none n)

pub padded_sum : (f : Pages → ℕ) → f no_pages ≡ 0 → (tables wider : List Pages) → IsPadded tables wider → sum_by f wider ≡ sum_by f tables
padded_sum f none tables wider pad = ap (sum_by f) pad.1 ∙ (let e = sum_by-append f tables (replicate pad.0 no_pages) in let z = no_sum f none pad.0 in omega arith)

pub padded_table : (tables wider : List Pages) → IsPadded tables wider → (k : ℕ) → table_at wider k ≡ table_at tables k
padded_table tables wider pad k = ap (λ (ts : List Pages). table_at ts k) pad.1 ∙ padded_at tables pad.0 k

pub pad_none : (xs ys : List Pages) → ys ≡ xs → IsPadded xs ys
pad_none xs ys e = (0, e ∙ sym (append-nil xs))

pub pad_more : (a b c : List Pages) → IsPadded a b → c ≡ b ++ replicate (length c - length b) no_pages → IsPadded a c
pad_more a b c pad e = (
  pad.0 + (length c - length b),
  e ∙ ap (λ (xs : List Pages). xs ++ replicate (length c - length b) no_pages) pad.1 ∙ append_assoc a (replicate pad.0 no_pages) (replicate (length c - length b) no_pages)
      ∙ ap (λ (xs : List Pages). a ++ xs) (replicate-append-replicate pad.0 (length c - length b) no_pages),
)

-- the same pages, with other room
module _ {F : Type 0} (pool more : Facts F) (tables after : List Pages) (facts : more.facts ≡ pool.facts)
    (pages : (k : ℕ) → (table_at after k).pages ≡ (table_at tables k).pages) (bits : (k : ℕ) → (table_at after k).bits ≡ (table_at tables k).bits) where
  edges_same : (k : ℕ) → edges_of more.facts (table_at after k).pages (table_at after k).bits ≡ edges_of pool.facts (table_at tables k).pages (table_at tables k).bits
  edges_same k = ap (λ (fs : List F). edges_of fs (table_at after k).pages (table_at after k).bits) facts ∙ ap (λ (ps : List Page). edges_of pool.facts ps (table_at after k).bits) (pages k)
      ∙ ap (λ (bs : List ℕ). edges_of pool.facts (table_at tables k).pages bs) (bits k)

  pub same_under : (k : ℕ) → edges_under (store_of more.facts after) k ≡ edges_under (store_of pool.facts tables) k
  same_under k = edges_at more.facts after k ∙ edges_same k ∙ sym (edges_at pool.facts tables k)

  -- the parts fit as before where the counts do
  pub same_store : (room total : ℕ) → IsStore pool tables room → more.counts ≡ pool.counts → ((k : ℕ) → (table_at after k).held ≡ (table_at tables k).held)
      → ((n : ℕ) → sum_by (λ (t : Pages). uses_of t.pages n) after ≡ sum_by (λ (t : Pages). uses_of t.pages n) tables)
      → total ≡ sum_by (λ (t : Pages). t.room) after → total ≤ more.spare → more.used + total < 2 ^ 64 → IsStore more after total
  same_store room total store counts held uses rooms fits few = record {
    distinct = subst IsDistinct (sym facts) store.distinct;
    counted = λ n. ap (λ (xs : List ℕ). get_or xs n 0) counts ∙ store.counted n ∙ sym (uses n);
    once = λ k. subst IsDistinct (sym (pages k)) (store.once k);
    held = λ k. subst (λ (es : List (Spot F)). HasCount (Contains es) (table_at after k).held) (sym (edges_same k))
        (subst (HasCount (Contains (edges_of pool.facts (table_at tables k).pages (table_at tables k).bits))) (sym (held k)) (store.held k));
    full = λ k p. subst (λ (bs : List ℕ). Contains (table_at after k).pages p → (b : ℕ) × (b < 64) × HasBit (table_at after k).pages bs p b) (sym (bits k))
        (subst (λ (ps : List Page). Contains ps p → (b : ℕ) × (b < 64) × HasBit ps (table_at tables k).bits p b) (sym (pages k)) (store.full k p));
    rooms = rooms;
    numbers = fits;
    few = few;
  }

-- the room of one table
module _ (tables : List Pages) (at : ℕ) (t u : Pages) (is : t ≡ get_or tables at t) (within : at < length tables) where
  here_is : get_or tables at no_pages ≡ t
  here_is = sym (is ∙ get_or_default tables at t no_pages within)

  -- a part of each table that one table keeps
  pub part_same : {X : Type 0} (f : Pages → X) → f u ≡ f t → (k : ℕ) → f (table_at (set tables at u) k) ≡ f (table_at tables k)
  part_same f same k = elim (same_number_or_not k at) [
    | inl is_at ↦ ap (λ (j : ℕ). f (table_at (set tables at u) j)) is_at ∙ ap f (get_or-set_same tables at u no_pages within) ∙ same ∙ ap f (sym here_is) ∙ ap (λ (j : ℕ). f (table_at tables j)) (sym is_at)
    | inr other ↦ ap f (get_or-set_other tables at k u no_pages other)
  ]

  pub sum_moved : (f : Pages → ℕ) → sum_by f (set tables at u) + f t ≡ sum_by f tables + f u
  sum_moved f = let e = sum_by-set f tables at u no_pages within in let same : f (get_or tables at no_pages) ≡ f t = ap f here_is in omega arith

  pub room_raised : t.room ≤ u.room → (k : ℕ) → get_or (map (λ (s : Pages). s.room) tables) k 0 ≤ get_or (map (λ (s : Pages). s.room) (set tables at u)) k 0
  room_raised more k = elim (same_number_or_not k at) [
    | inl is_at ↦
        let before : get_or (map (λ (s : Pages). s.room) tables) k 0 ≡ t.room = room_at tables k ∙ ap (λ (j : ℕ). (table_at tables j).room) is_at ∙ ap (λ (s : Pages). s.room) here_is in
        let after : get_or (map (λ (s : Pages). s.room) (set tables at u)) k 0 ≡ u.room = room_at (set tables at u) k ∙ ap (λ (j : ℕ). (table_at (set tables at u) j).room) is_at ∙ ap (λ (s : Pages). s.room) (get_or-set_same tables at u no_pages within) in
        omega arith
    | inr other ↦
        let same : get_or (map (λ (s : Pages). s.room) (set tables at u)) k 0 ≡ get_or (map (λ (s : Pages). s.room) tables) k 0 = room_at (set tables at u) k ∙ ap (λ (s : Pages). s.room) (get_or-set_other tables at k u no_pages other) ∙ sym (room_at tables k) in
        omega arith
  ]

  pub room_here : get_or (map (λ (s : Pages). s.room) (set tables at u)) at 0 ≡ u.room
  room_here = room_at (set tables at u) at ∙ ap (λ (s : Pages). s.room) (get_or-set_same tables at u no_pages within)

-- whether an edge is held
module _ {F : Type 0} (facts : List F) (tables : List Pages) (at : ℕ) (t : Pages) (is : t ≡ get_or tables at t) (within : at < length tables) (e : Spot F) where
  pub has_found : Marked facts t.pages t.bits e → Holds (store_of facts tables) at e
  has_found m = into facts tables at e (move facts t (table_at tables at) e (is ∙ get_or_default tables at t no_pages within) (held_of facts t.pages t.bits e m))

  pub has_none : (Marked facts t.pages t.bits e → ⊥) → Holds (store_of facts tables) at e → ⊥
  has_none lacks h = lacks (marked_of facts t.pages t.bits e (move facts (table_at tables at) t e (sym (is ∙ get_or_default tables at t no_pages within)) (out facts tables at e h)))

pub has_past : {F : Type 0} (facts : List F) (tables : List Pages) (k : ℕ) (e : Spot F) → length tables ≤ k → Holds (store_of facts tables) k e → ⊥
has_past facts tables k e past h = nothing facts e (move facts (table_at tables k) no_pages e (get_or_past tables k no_pages past) (out facts tables k e h))

-- further tables alone
module _ {F : Type 0} (pool : Facts F) (tables wider : List Pages) (pad : IsPadded tables wider) where
  wide_pages : (k : ℕ) → (table_at wider k).pages ≡ (table_at tables k).pages
  wide_pages k = ap (λ (t : Pages). t.pages) (padded_table tables wider pad k)

  wide_bits : (k : ℕ) → (table_at wider k).bits ≡ (table_at tables k).bits
  wide_bits k = ap (λ (t : Pages). t.bits) (padded_table tables wider pad k)

  pub padded_same : (k : ℕ) → edges_under (store_of pool.facts wider) k ≡ edges_under (store_of pool.facts tables) k
  padded_same = same_under pool pool tables wider refl wide_pages wide_bits

  pub padded_room : (k : ℕ) → get_or (map (λ (s : Pages). s.room) tables) k 0 ≤ get_or (map (λ (s : Pages). s.room) wider) k 0
  padded_room k =
      let a = room_at tables k in
      let b = room_at wider k in
      let same : (table_at wider k).room ≡ (table_at tables k).room = ap (λ (t : Pages). t.room) (padded_table tables wider pad k) in
      omega arith

  pub padded_store : (room : ℕ) → IsStore pool tables room → IsStore pool wider room
  padded_store room store = same_store pool pool tables wider refl wide_pages wide_bits room room store refl (λ k. ap (λ (t : Pages). t.held) (padded_table tables wider pad k))
      (λ n. padded_sum (λ (t : Pages). uses_of t.pages n) refl tables wider pad)
      (store.rooms ∙ sym (padded_sum (λ (t : Pages). t.room) refl tables wider pad)) store.numbers store.few

  -- and then more room
  module _ (more : Facts F) (at : ℕ) (t u : Pages) (is : t ≡ get_or wider at t) (within : at < length wider) (facts : more.facts ≡ pool.facts) (pages : u.pages ≡ t.pages) (bits : u.bits ≡ t.bits) where
    all_pages : (k : ℕ) → (table_at (set wider at u) k).pages ≡ (table_at tables k).pages
    all_pages k = part_same wider at t u is within (λ (s : Pages). s.pages) pages k ∙ wide_pages k

    all_bits : (k : ℕ) → (table_at (set wider at u) k).bits ≡ (table_at tables k).bits
    all_bits k = part_same wider at t u is within (λ (s : Pages). s.bits) bits k ∙ wide_bits k

    pub raised_same : (k : ℕ) → edges_under (store_of more.facts (set wider at u)) k ≡ edges_under (store_of pool.facts tables) k
    raised_same = same_under pool more tables (set wider at u) facts all_pages all_bits

    pub raised_room : t.room ≤ u.room → (k : ℕ) → get_or (map (λ (s : Pages). s.room) tables) k 0 ≤ get_or (map (λ (s : Pages). s.room) (set wider at u)) k 0
    raised_room higher k = omega (arith, padded_room k, room_raised wider at t u is within higher k)

    pub raised_store : (room total : ℕ) → IsStore pool tables room → more.counts ≡ pool.counts → u.held ≡ t.held → total + t.room ≡ room + u.room → total ≤ more.spare → more.used + total < 2 ^ 64
        → IsStore more (set wider at u) total
    raised_store room total store counts held sums fits few = same_store pool more tables (set wider at u) facts all_pages all_bits room total store counts
        (λ k. part_same wider at t u is within (λ (s : Pages). s.held) held k ∙ ap (λ (s : Pages). s.held) (padded_table tables wider pad k))
        (λ n. let moved = sum_moved wider at t u is within (λ (s : Pages). uses_of s.pages n) in
        let same : uses_of u.pages n ≡ uses_of t.pages n = ap (λ (ps : List Page). uses_of ps n) pages in
        omega (arith, moved, same, padded_sum (λ (s : Pages). uses_of s.pages n) refl tables wider pad))
        (let moved = sum_moved wider at t u is within (λ (s : Pages). s.room) in omega (arith, moved, store.rooms, padded_sum (λ (s : Pages). s.room) refl tables wider pad))
        fits few

-- pages that go
module _ (pages : List Page) (i : ℕ) (page : Page) (now was : List ℕ) (is : page ≡ get_or pages i page) (below : i < length pages)
    (so_far : (n : ℕ) → get_or now n 0 + uses_of (take i pages) n ≡ get_or was n 0) where
  one_page_more : (n : ℕ) → uses_of (take (i + 1) pages) n ≡ uses_of (take i pages) n + cond {A = ℕ} (page.fact == n) 1 0
  one_page_more n = sum_by_more (λ (p : Page). cond {A = ℕ} (p.fact == n) 1 0) pages i page below ∙ ap (λ (p : Page). uses_of (take i pages) n + cond {A = ℕ} (p.fact == n) 1 0) (sym is)

  pub release_can : ((n : ℕ) → uses_of pages n ≤ get_or was n 0) → 0 < get_or now page.fact 0
  release_can enough =
      let more = one_page_more page.fact in
      let one : cond {A = ℕ} (page.fact == page.fact) 1 0 ≡ 1 = self_counts page.fact in
      let part = sum_by-take-le (λ (p : Page). cond {A = ℕ} (p.fact == page.fact) 1 0) pages (i + 1) in
      omega (arith, more, one, part, enough page.fact, so_far page.fact)

  pub release_one : 0 < get_or now page.fact 0 → (n : ℕ) → get_or (set now page.fact (get_or now page.fact 0 - 1)) n 0 + uses_of (take (i + 1) pages) n ≡ get_or was n 0
  release_one some n =
      let inside : page.fact < length now = elim (same_number_or_not (length now - page.fact) 0) [
        | inl past ↦ absurd (let none : get_or now page.fact 0 ≡ 0 = get_or_past now page.fact 0 (omega arith) in omega arith)
        | inr within ↦ omega arith
      ] in
      elim (same_number_or_not n page.fact) [
        | inl same ↦
            let one : cond {A = ℕ} (page.fact == n) 1 0 ≡ 1 = ap (λ (k : ℕ). cond {A = ℕ} (page.fact == k) 1 0) same ∙ self_counts page.fact in
            let after : get_or (set now page.fact (get_or now page.fact 0 - 1)) n 0 ≡ get_or now page.fact 0 - 1 = ap (λ (k : ℕ). get_or (set now page.fact (get_or now page.fact 0 - 1)) k 0) same ∙ get_or-set_same now page.fact (get_or now page.fact 0 - 1) 0 inside in
            let before : get_or now n 0 ≡ get_or now page.fact 0 = ap (λ (k : ℕ). get_or now k 0) same in
            omega (arith, one_page_more n, so_far n)
        | inr other ↦
            let none : cond {A = ℕ} (page.fact == n) 1 0 ≡ 0 = others_count page.fact n (λ e. other (sym e)) in
            let after : get_or (set now page.fact (get_or now page.fact 0 - 1)) n 0 ≡ get_or now n 0 = get_or-set_other now page.fact n (get_or now page.fact 0 - 1) 0 other in
            omega (arith, one_page_more n, so_far n)
      ]

-- all edges of a method go
module _ {F : Type 0} (pool more : Facts F) (tables : List Pages) (room at : ℕ) (store : IsStore pool tables room) (t u : Pages) (is : t ≡ get_or tables at t) (within : at < length tables)
    (facts : more.facts ≡ pool.facts) (empty : u ≡ no_pages) where
  apart_table : (k : ℕ) → k ≢ at → table_at (set tables at u) k ≡ table_at tables k
  apart_table k other = get_or-set_other tables at k u no_pages other

  bare_table : table_at (set tables at u) at ≡ no_pages
  bare_table = get_or-set_same tables at u no_pages within ∙ empty

  pub drop_gone : (e : Spot F) → Holds (store_of more.facts (set tables at u)) at e → ⊥
  drop_gone e h = nothing more.facts e (move more.facts (table_at (set tables at u) at) no_pages e bare_table (out more.facts (set tables at u) at e h))

  pub drop_kept : (k : ℕ) → k ≢ at → (e : Spot F) → Holds (store_of pool.facts tables) k e → Holds (store_of more.facts (set tables at u)) k e
  drop_kept k other e h = into more.facts (set tables at u) k e (move more.facts (table_at tables k) (table_at (set tables at u) k) e (sym (apart_table k other))
      (subst (λ (fs : List F). Has fs tables k e) (sym facts) (out pool.facts tables k e h)))

  kept_back : (k : ℕ) → k ≢ at → (e : Spot F) → Holds (store_of more.facts (set tables at u)) k e → Holds (store_of pool.facts tables) k e
  kept_back k other e h = into pool.facts tables k e (subst (λ (fs : List F). Has fs tables k e) facts
      (move more.facts (table_at (set tables at u) k) (table_at tables k) e (apart_table k other) (out more.facts (set tables at u) k e h)))

  pub drop_from : (k : ℕ) (e : Spot F) → Holds (store_of more.facts (set tables at u)) k e → Holds (store_of pool.facts tables) k e
  drop_from k e h = elim (same_number_or_not k at) [
    | inl same ↦ absurd (drop_gone e (subst (λ (j : ℕ). Holds (store_of more.facts (set tables at u)) j e) same h))
    | inr other ↦ kept_back k other e h
  ]

  pub drop_others : (k : ℕ) → k ≢ at → get_or (map (λ (s : Pages). s.room) tables) k 0 ≤ get_or (map (λ (s : Pages). s.room) (set tables at u)) k 0
  drop_others k other =
      let same : get_or (map (λ (s : Pages). s.room) (set tables at u)) k 0 ≡ get_or (map (λ (s : Pages). s.room) tables) k 0 = room_at (set tables at u) k ∙ ap (λ (s : Pages). s.room) (apart_table k other) ∙ sym (room_at tables k) in
      omega arith

  drop_held : (k : ℕ) → HasCount (Has more.facts (set tables at u) k) (table_at (set tables at u) k).held
  drop_held k = elim (same_number_or_not k at) [
    | inl same ↦ subst (λ (j : ℕ). HasCount (Has more.facts (set tables at u) j) (table_at (set tables at u) j).held) (sym same)
        (subst (HasCount (Has more.facts (set tables at u) at)) (ap (λ (s : Pages). s.held) (sym bare_table))
        (count_none (Has more.facts (set tables at u) at) (λ e h. nothing more.facts e (move more.facts (table_at (set tables at u) at) no_pages e bare_table h))))
    | inr other ↦ subst (HasCount (Has more.facts (set tables at u) k)) (ap (λ (s : Pages). s.held) (sym (apart_table k other)))
        (count_same (Has pool.facts tables k) (Has more.facts (set tables at u) k) (table_at tables k).held
        (λ e h. out more.facts (set tables at u) k e (drop_kept k other e (into pool.facts tables k e h)))
        (λ e h. out pool.facts tables k e (kept_back k other e (into more.facts (set tables at u) k e h))) (store.held k))
  ]

  drop_full : (k : ℕ) (p : Page) → IsFull (table_at (set tables at u) k) p
  drop_full k p = elim (same_number_or_not k at) [
    | inl same ↦ subst (λ (j : ℕ). IsFull (table_at (set tables at u) j) p) (sym same) (subst (λ (s : Pages). IsFull s p) (sym bare_table) (λ has. absurd (let none = has.1 in omega arith)))
    | inr other ↦ subst (λ (s : Pages). IsFull s p) (sym (apart_table k other)) (store.full k p)
  ]

  drop_once : (k : ℕ) → IsDistinct (table_at (set tables at u) k).pages
  drop_once k = elim (same_number_or_not k at) [
    | inl same ↦ subst (λ (j : ℕ). IsDistinct (table_at (set tables at u) j).pages) (sym same) (subst (λ (s : Pages). IsDistinct s.pages) (sym bare_table) (λ i j d below within is. omega arith))
    | inr other ↦ subst (λ (s : Pages). IsDistinct s.pages) (sym (apart_table k other)) (store.once k)
  ]

  pub drop_store : ((n : ℕ) → get_or more.counts n 0 + uses_of t.pages n ≡ get_or pool.counts n 0) → more.used ≤ pool.used → more.spare ≡ pool.spare → IsStore more (set tables at u) (room - t.room)
  drop_store counts used spare =
      let rooms = sum_moved tables at t u is within (λ (s : Pages). s.room) in
      let none : u.room ≡ 0 = ap (λ (s : Pages). s.room) empty in
      record {
        distinct = subst IsDistinct (sym facts) store.distinct;
        counted = λ n.
            let moved = sum_moved tables at t u is within (λ (s : Pages). uses_of s.pages n) in
            let bare : uses_of u.pages n ≡ 0 = ap (λ (s : Pages). uses_of s.pages n) empty in
            omega (arith, moved, bare, counts n, store.counted n);
        once = drop_once;
        held = drop_held;
        full = drop_full;
        rooms = omega (arith, store.rooms);
        numbers = omega (arith, store.numbers);
        few = omega (arith, store.few);
      }

  -- its pages have uses
  pub drop_enough : (n : ℕ) → uses_of t.pages n ≤ get_or pool.counts n 0
  drop_enough n =
      let part = get_or-le-sum_by (λ (s : Pages). uses_of s.pages n) tables at t within in
      let same : uses_of (get_or tables at t).pages n ≡ uses_of t.pages n = ap (λ (s : Pages). uses_of s.pages n) (sym is) in
      omega (arith, store.counted n)

  pub drop_part : t.room ≤ room
  drop_part =
      let part = get_or-le-sum_by (λ (s : Pages). s.room) tables at t within in
      let same : (get_or tables at t).room ≡ t.room = ap (λ (s : Pages). s.room) (sym is) in
      omega (arith, store.rooms)

-- the facts of held edges are those that have uses
sum_some : (f : Pages → ℕ) (tables : List Pages) → 0 < sum_by f tables → (k : ℕ) × (0 < f (table_at tables k))
sum_some f [] h = absurd (omega arith)
sum_some f (t ∷ tables) h = elim (same_number_or_not (f t) 0) [
  | inl none ↦ let rest = sum_some f tables (omega (arith, sum_by-cons f t tables)) in (suc rest.0, rest.1)
  | inr some ↦ (0, omega arith)
]

uses_some : (pages : List Page) (n : ℕ) → 0 < uses_of pages n → (p : Page) × Contains pages p × (p.fact ≡ n)
uses_some [] n h = absurd (omega arith)
uses_some (p ∷ pages) n h = elim (same_number_or_not p.fact n) [
  | inl same ↦ (p, (0, omega arith, refl), same)
  | inr other ↦
      let cons : uses_of (p ∷ pages) n ≡ cond {A = ℕ} (p.fact == n) 1 0 + uses_of pages n = sum_by-cons (λ (q : Page). cond {A = ℕ} (q.fact == n) 1 0) p pages in
      let none : cond {A = ℕ} (p.fact == n) 1 0 ≡ 0 = others_count p.fact n other in
      let rest = uses_some pages n (omega arith) in
      (rest.0, (suc rest.1.0, omega (arith, rest.1.1), rest.1.2), rest.2)
]

module _ {F : Type 0} (pool : Facts F) (tables : List Pages) (room : ℕ) (store : IsStore pool tables room) where
  fact_of : (f : F) → UsedFact pool.facts pool.counts f → IsFact (store_of pool.facts tables) f
  fact_of f used =
      let n : ℕ = used.0 in
      let there = sum_some (λ (t : Pages). uses_of t.pages n) tables (omega (arith, store.counted n, used.2)) in
      let k : ℕ = there.0 in
      let page = uses_some (table_at tables k).pages n there.1 in
      let p : Page = page.0 in
      let bit = store.full k p page.1 in
      let b : ℕ = bit.0 in
      let node : Node = node_at p.number b in
      let m : Marked pool.facts (table_at tables k).pages (table_at tables k).bits (spot p.context node f) = record {
        number = p.fact;
        fact = subst (λ (j : ℕ). At pool.facts j f) (sym page.2) used.1;
        bit = subst (λ (j : ℕ). HasBit (table_at tables k).pages (table_at tables k).bits (page_with p.context p.fact j) (bit_of node)) (sym (page_back p.number b bit.1))
            (subst (λ (j : ℕ). HasBit (table_at tables k).pages (table_at tables k).bits p j) (sym (bit_back p.number b bit.1)) bit.2);
      } in
      (k, spot p.context node f, into pool.facts tables k (spot p.context node f) (held_of pool.facts (table_at tables k).pages (table_at tables k).bits (spot p.context node f) m), refl)

  of_fact : (f : F) → IsFact (store_of pool.facts tables) f → UsedFact pool.facts pool.counts f
  of_fact f is =
      let k : ℕ = is.0 in
      let e : Spot F = is.1 in
      let m = marked_of pool.facts (table_at tables k).pages (table_at tables k).bits e (out pool.facts tables k e is.2) in
      (m.number, subst (At pool.facts m.number) is.3 m.fact, used_at pool tables room store k (page_with e.context m.number (page_of e.node)) (m.bit.0, m.bit.1.0, m.bit.1.1))

  pub facts_count : HasCount (UsedFact pool.facts pool.counts) pool.live → HasCount (IsFact (store_of pool.facts tables)) pool.live
  facts_count used = count_same (UsedFact pool.facts pool.counts) (IsFact (store_of pool.facts tables)) pool.live fact_of of_fact used

  -- the fact of a held edge keeps its number
  pub facts_kept : (more : Facts F) → KeepsUsed pool.counts pool.facts more.facts → (n : ℕ) (f : F) → At pool.facts n f → IsFact (store_of pool.facts tables) f → At more.facts n f
  facts_kept more keeps n f at is =
      let used = of_fact f is in
      keeps n f (subst (λ (k : ℕ). 0 < get_or pool.counts k 0) (at_once pool.facts used.0 n f store.distinct used.1 at) used.2) at
