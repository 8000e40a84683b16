-- Bits of pages, and edges as such bits.
use Rattle.std.proofs.Common.{◌≡◌, ◌≢◌, ℕ, zero, suc, ◌+◌, ◌%◌, ◌-◌, ◌<◌, ◌≤◌, ◌==◌, List, [], ◌∷◌, ◌++◌, length, get_or, set, cond, sym, ap, subst, ◌∙◌, arith, inl, inr, ◌⊎◌, refl, w64}
use Rattle.std.specs.Prelude.{Contains}
use Rattle.std.specs.Int.{bit_at}
use Rattle.std.proofs.lemmas.List.{length_push, get_or-set_same, get_or-set_other, get_or_push, get_or_append_left, get_or_default}
use Rattle.std.proofs.lemmas.List.Sums.{sum_by_push, get_or-le-sum_by}
use Rattle.std.proofs.lemmas.List.Elements.{Contains-push_cases}
use Rattle.std.proofs.lemmas.Nat.Bits.{bit_at_set_same, bit_at_set_other, bit_at-zero}
use Rattle.ifds_model.specs.State.{At, IsDistinct}
use Rattle.ifds_model.specs.declared.node.Dir.{Dir}
use Rattle.ifds_model.specs.declared.node.Dir.TheVariants.{Forward, Backward}
use Rattle.ifds_model.specs.declared.node.Node.{Node}
use Rattle.edge_store.specs.declared.page.Page.{Page}
use Rattle.edge_store.specs.Pages.{Spot, spot, way_of, dir_at, page_of, bit_of, node_at, page_with, with_bit, HasBit, Marked, uses_of}
use Rattle.edge_store.specs.Pool.{KeepsUsed}
use Rattle.edge_store.proofs.Listed.{same_number_or_not}

-- an item has one place
pub at_once : {X : Type 0} (xs : List X) (i j : ℕ) (x : X) → IsDistinct xs → At xs i x → At xs j x → i ≡ j
at_once xs i j x distinct a b = elim (same_number_or_not i j) [
  | inl same ↦ same
  | inr other ↦ absurd (elim (same_number_or_not (i - j) 0) [
    | inl below ↦ distinct i j x (omega arith) b.0 (a.1 ∙ sym b.1)
    | inr above ↦ distinct j i x (omega arith) a.0 (b.1 ∙ sym a.1)
  ])
]

pub at_contains : {X : Type 0} (xs : List X) (i : ℕ) (x : X) → At xs i x → Contains xs x
at_contains xs i x at = (i, at.0, at.1)

-- one place has one item
pub same_at : {X : Type 0} (xs : List X) (i : ℕ) (x y : X) → At xs i x → At xs i y → x ≡ y
same_at xs i x y a b = sym a.1 ∙ get_or_default xs i x y a.0 ∙ b.1

pub way_small : (d : Dir) → way_of d ≤ 1
way_small Forward = omega arith
way_small Backward = omega arith

way_same : (c d : Dir) → way_of c ≡ way_of d → c ≡ d
way_same Forward Forward e = refl
way_same Forward Backward e = absurd (omega arith)
way_same Backward Forward e = absurd (omega arith)
way_same Backward Backward e = refl

make_node : ℕ → Dir → Node
make_node n d = record { stmt = record { 0 = n }; dir = d }

-- a node is known by its page and its bit
pub node_same : (n m : Node) → page_of n ≡ page_of m → bit_of n ≡ bit_of m → n ≡ m
unfolding make_node
node_same n m page bit =
    let a = way_small n.dir in
    let b = way_small m.dir in
    let ways : way_of n.dir ≡ way_of m.dir = omega arith in
    let stmts : n.stmt.0 ≡ m.stmt.0 = omega arith in
    ap (λ (k : ℕ). make_node k n.dir) stmts ∙ ap (make_node m.stmt.0) (way_same n.dir m.dir ways)

way_at : (n : ℕ) → n < 2 → way_of (dir_at n) ≡ n
way_at zero h = refl
way_at (suc zero) h = refl
way_at (suc (suc n)) h = absurd (omega arith)

pub page_back : (page bit : ℕ) → bit < 64 → page_of (node_at page bit) ≡ page
page_back page bit small = omega arith

pub bit_back : (page bit : ℕ) → bit < 64 → bit_of (node_at page bit) ≡ bit
bit_back page bit small = let way : way_of (dir_at (bit % 2)) ≡ bit % 2 = way_at (bit % 2) (omega arith) in omega arith

-- a bit of a page is set
module _ (pages : List Page) (bits : List ℕ) (page : Page) (place : ℕ) (even : length bits ≡ length pages) (distinct : IsDistinct pages) (small : place < 64) where
  -- at a page that is there
  module _ (at : ℕ) (here : At pages at page) where
    inside : at < length bits
    inside = let below : at < length pages = here.0 in omega arith

    word : ℕ
    word = with_bit (get_or bits at 0) place

    pub absent : bit_at (get_or bits at 0) place ≡ 0 → HasBit pages bits page place → ⊥
    absent none has =
        let same : has.0 ≡ at = at_once pages has.0 at page distinct has.1 here in
        let is : bit_at (get_or bits has.0 0) place ≡ bit_at (get_or bits at 0) place = ap (λ (k : ℕ). bit_at (get_or bits k 0) place) same in
        let one = has.2 in
        omega arith

    pub set_there : HasBit pages (set bits at (with_bit (get_or bits at 0) place)) page place
    set_there = (at, here, ap (λ (n : ℕ). bit_at n place) (get_or-set_same bits at (with_bit (get_or bits at 0) place) 0 inside) ∙ bit_at_set_same w64 (get_or bits at 0) place small)

    pub set_kept : (q : Page) (b : ℕ) → HasBit pages bits q b → HasBit pages (set bits at (with_bit (get_or bits at 0) place)) q b
    set_kept q b has = (
      has.0,
      has.1,
      elim (same_number_or_not has.0 at) [
        | inl same ↦ elim (same_number_or_not b place) [
          | inl also ↦ ap (λ (k : ℕ). bit_at (get_or (set bits at (with_bit (get_or bits at 0) place)) k 0) b) same ∙ ap (λ (n : ℕ). bit_at n b) (get_or-set_same bits at (with_bit (get_or bits at 0) place) 0 inside) ∙ ap (bit_at (with_bit (get_or bits at 0) place)) also ∙ bit_at_set_same w64 (get_or bits at 0) place small
          | inr other ↦ ap (λ (k : ℕ). bit_at (get_or (set bits at (with_bit (get_or bits at 0) place)) k 0) b) same ∙ ap (λ (n : ℕ). bit_at n b) (get_or-set_same bits at (with_bit (get_or bits at 0) place) 0 inside) ∙ bit_at_set_other w64 (get_or bits at 0) place small b other ∙ ap (λ (k : ℕ). bit_at (get_or bits k 0) b) (sym same) ∙ has.2
        ]
        | inr apart ↦ ap (λ (n : ℕ). bit_at n b) (get_or-set_other bits at has.0 (with_bit (get_or bits at 0) place) 0 apart) ∙ has.2
      ],
    )

    pub set_from : (q : Page) (b : ℕ) → HasBit pages (set bits at (with_bit (get_or bits at 0) place)) q b → HasBit pages bits q b ⊎ ((q ≡ page) × (b ≡ place))
    set_from q b has = elim (same_number_or_not has.0 at) [
      | inl same ↦
          let here_too : At pages at q = subst (λ (k : ℕ). At pages k q) same has.1 in
          elim (same_number_or_not b place) [
            | inl also ↦ inr (same_at pages at q page here_too here, also)
            | inr other ↦ inl (at, here_too, sym (ap (λ (k : ℕ). bit_at (get_or (set bits at (with_bit (get_or bits at 0) place)) k 0) b) same ∙ ap (λ (n : ℕ). bit_at n b) (get_or-set_same bits at (with_bit (get_or bits at 0) place) 0 inside) ∙ bit_at_set_other w64 (get_or bits at 0) place small b other) ∙ has.2)
          ]
      | inr apart ↦ inl (has.0, has.1, sym (ap (λ (n : ℕ). bit_at n b) (get_or-set_other bits at has.0 (with_bit (get_or bits at 0) place) 0 apart)) ∙ has.2)
    ]

  -- at a page that comes
  pub push_there : HasBit (pages ++ page ∷ []) (bits ++ with_bit 0 place ∷ []) page place
  push_there =
      let more : length (pages ++ page ∷ []) ≡ length pages + 1 = length_push pages page in
      (length pages, (omega arith, get_or_push pages page page (length pages) refl), ap (λ (n : ℕ). bit_at n place) (get_or_push bits (with_bit 0 place) 0 (length pages) even) ∙ bit_at_set_same w64 0 place small)

  pub push_kept : (q : Page) (b : ℕ) → HasBit pages bits q b → HasBit (pages ++ page ∷ []) (bits ++ with_bit 0 place ∷ []) q b
  push_kept q b has =
      let more : length (pages ++ page ∷ []) ≡ length pages + 1 = length_push pages page in
      let below : has.0 < length pages = has.1.0 in
      (has.0, (omega arith, get_or_append_left pages (page ∷ []) q has.0 below ∙ has.1.1), ap (λ (n : ℕ). bit_at n b) (get_or_append_left bits (with_bit 0 place ∷ []) 0 has.0 (omega arith)) ∙ has.2)

  pub push_from : (q : Page) (b : ℕ) → HasBit (pages ++ page ∷ []) (bits ++ with_bit 0 place ∷ []) q b → HasBit pages bits q b ⊎ ((q ≡ page) × (b ≡ place))
  push_from q b has =
      let more : length (pages ++ page ∷ []) ≡ length pages + 1 = length_push pages page in
      let within : has.0 < length (pages ++ page ∷ []) = has.1.0 in
      elim (same_number_or_not has.0 (length pages)) [
        | inl same ↦
            let is : q ≡ page = sym has.1.1 ∙ ap (λ (k : ℕ). get_or (pages ++ page ∷ []) k q) same ∙ get_or_push pages page q (length pages) refl in
            let word_is : bit_at (get_or (bits ++ with_bit 0 place ∷ []) has.0 0) b ≡ bit_at (with_bit 0 place) b = ap (λ (k : ℕ). bit_at (get_or (bits ++ with_bit 0 place ∷ []) k 0) b) same ∙ ap (λ (n : ℕ). bit_at n b) (get_or_push bits (with_bit 0 place) 0 (length pages) even) in
            elim (same_number_or_not b place) [
              | inl also ↦ inr (is, also)
              | inr other ↦ absurd (let none : bit_at (with_bit 0 place) b ≡ 0 = bit_at_set_other w64 0 place small b other ∙ bit_at-zero b in let one = has.2 in omega arith)
            ]
        | inr apart ↦
            let below : has.0 < length pages = omega arith in
            inl (has.0, (below, sym (get_or_append_left pages (page ∷ []) q has.0 below) ∙ has.1.1), sym (ap (λ (n : ℕ). bit_at n b) (get_or_append_left bits (with_bit 0 place ∷ []) 0 has.0 (omega arith))) ∙ has.2)
      ]

pub full_set : (pages : List Page) (bits : List ℕ) (p : Page) → Contains pages p → Contains pages p ⊎ ((b : ℕ) × (b < 64) × HasBit pages bits p b)
full_set pages bits p has = inl has

pub full_push : (pages : List Page) (bits : List ℕ) (page : Page) (place : ℕ) → length bits ≡ length pages → IsDistinct pages → place < 64 → (p : Page) → Contains (pages ++ page ∷ []) p
    → Contains pages p ⊎ ((b : ℕ) × (b < 64) × HasBit (pages ++ page ∷ []) (bits ++ with_bit 0 place ∷ []) p b)
full_push pages bits page place even distinct small p has = elim (Contains-push_cases pages page p has) [
  | inl old ↦ inl old
  | inr same ↦ inr (place, small, subst (λ (q : Page). HasBit (pages ++ page ∷ []) (bits ++ with_bit 0 place ∷ []) q place) same (push_there pages bits page place even distinct small))
]

-- one more page has its fact
pub uses_push : (pages : List Page) (page : Page) (counts : List ℕ) (n : ℕ) → page.fact < length counts
    → get_or (set counts page.fact (get_or counts page.fact 0 + 1)) n 0 + uses_of pages n ≡ get_or counts n 0 + uses_of (pages ++ page ∷ []) n
uses_push pages page counts n within =
    let more : uses_of (pages ++ page ∷ []) n ≡ uses_of pages n + cond {A = ℕ} (page.fact == n) 1 0 = sum_by_push (λ (p : Page). cond {A = ℕ} (p.fact == n) 1 0) pages page in
    elim (same_number_or_not n page.fact) [
      | inl same ↦
          let one : cond {A = ℕ} (page.fact == n) 1 0 ≡ 1 = ap (λ (k : ℕ). cond {A = ℕ} (page.fact == k) 1 0) same ∙ self_one page.fact in
          let now : get_or (set counts page.fact (get_or counts page.fact 0 + 1)) n 0 ≡ get_or counts page.fact 0 + 1 = ap (λ (k : ℕ). get_or (set counts page.fact (get_or counts page.fact 0 + 1)) k 0) same ∙ get_or-set_same counts page.fact (get_or counts page.fact 0 + 1) 0 within in
          let was : get_or counts n 0 ≡ get_or counts page.fact 0 = ap (λ (k : ℕ). get_or counts k 0) same in
          omega arith
      | inr other ↦
          let none : cond {A = ℕ} (page.fact == n) 1 0 ≡ 0 = apart_none page.fact n (λ e. other (sym e)) in
          let now : get_or (set counts page.fact (get_or counts page.fact 0 + 1)) n 0 ≡ get_or counts n 0 = get_or-set_other counts page.fact n (get_or counts page.fact 0 + 1) 0 other in
          omega arith
    ]
  where
    self_one : (k : ℕ) → cond {A = ℕ} (k == k) 1 0 ≡ 1
    self_one k = grind arith

    apart_none : (j k : ℕ) → j ≢ k → cond {A = ℕ} (j == k) 1 0 ≡ 0
    apart_none j k h = grind arith

pub self_counts : (k : ℕ) → cond {A = ℕ} (k == k) 1 0 ≡ 1
self_counts k = grind arith

pub others_count : (j k : ℕ) → j ≢ k → cond {A = ℕ} (j == k) 1 0 ≡ 0
others_count j k h = grind arith

-- a page that is there has uses
pub some_uses : (pages : List Page) (page : Page) → Contains pages page → 0 < uses_of pages page.fact
some_uses pages page has =
    let one : cond {A = ℕ} (page.fact == page.fact) 1 0 ≡ 1 = self_counts page.fact in
    let is : cond {A = ℕ} ((get_or pages has.0 page).fact == page.fact) 1 0 ≡ cond {A = ℕ} (page.fact == page.fact) 1 0 = ap (λ (p : Page). cond {A = ℕ} (p.fact == page.fact) 1 0) has.2 in
    let each : cond {A = ℕ} ((get_or pages has.0 page).fact == page.fact) 1 0 ≤ uses_of pages page.fact = get_or-le-sum_by (λ (p : Page). cond {A = ℕ} (p.fact == page.fact) 1 0) pages has.0 page has.1 in
    omega arith

-- an edge is held
module _ {F : Type 0} (facts more : List F) (pages wider : List Page) (bits after : List ℕ) (counts : List ℕ) (context : ℕ) (node : Node) (fact : F) (number : ℕ)
    (used : (p : Page) → Contains pages p → 0 < get_or counts p.fact 0) (keeps : KeepsUsed counts facts more) (back : KeepsUsed counts more facts) where
  one_page : Page
  one_page = page_with context number (page_of node)

  pub edge_kept : ((q : Page) (b : ℕ) → HasBit pages bits q b → HasBit wider after q b) → (e : Spot F) → Marked facts pages bits e → Marked more wider after e
  edge_kept kept e m = record {
    number = m.number;
    fact = keeps m.number e.fact (used (page_with e.context m.number (page_of e.node)) (at_contains pages m.bit.0 _ m.bit.1)) m.fact;
    bit = kept (page_with e.context m.number (page_of e.node)) (bit_of e.node) m.bit;
  }

  pub edge_from : (page place : ℕ) → page ≡ page_of node → place ≡ bit_of node → At more number fact
      → ((q : Page) (b : ℕ) → HasBit wider after q b → HasBit pages bits q b ⊎ ((q ≡ page_with context number page) × (b ≡ place)))
      → (e : Spot F) → Marked more wider after e → Marked facts pages bits e ⊎ (e ≡ spot context node fact)
  edge_from page place page_is place_is at from e m = elim (from (page_with e.context m.number (page_of e.node)) (bit_of e.node) m.bit) [
    | inl old ↦ inl (record {
      number = m.number;
      fact = back m.number e.fact (used (page_with e.context m.number (page_of e.node)) (at_contains pages old.0 _ old.1)) m.fact;
      bit = old;
    })
    | inr new ↦
        let contexts : e.context ≡ context = ap (λ (p : Page). p.context) new.0 in
        let numbers : m.number ≡ number = ap (λ (p : Page). p.fact) new.0 in
        let nodes : e.node ≡ node = node_same e.node node (ap (λ (p : Page). p.number) new.0 ∙ page_is) (new.1 ∙ place_is) in
        let facts_too : e.fact ≡ fact = same_at more number e.fact fact (subst (λ (k : ℕ). At more k e.fact) numbers m.fact) at in
        inr (ap (λ (k : ℕ). spot k e.node e.fact) contexts ∙ ap (λ (k : Node). spot context k e.fact) nodes ∙ ap (λ (k : F). spot context node k) facts_too)
  ]
