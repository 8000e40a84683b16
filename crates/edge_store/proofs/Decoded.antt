-- The list of edges has exactly those whose bits are set.
use Rattle.std.proofs.Common.{◌≡◌, ℕ, zero, suc, ◌-◌, ◌<◌, ◌≤◌, ◌==◌, List, [], ◌∷◌, ◌++◌, Bool, true, false, length, get_or, map, cond, sym, ap, subst, ◌∙◌, arith, inl, inr, refl, eqb-true, eq-eqb}
use Rattle.std.specs.Prelude.{Contains}
use Rattle.std.specs.Int.{bit_at}
use Rattle.std.specs.List.{flat_map}
use Rattle.std.proofs.lemmas.List.{get_or_past}
use Rattle.std.proofs.lemmas.List.Elements.{Contains-get_or, Contains-append_cases, Contains-append_left, Contains-append_right}
use Rattle.std.proofs.lemmas.Nat.Bits.{bit_at-zero}
use Rattle.ifds_model.specs.Count.{cons_cases}
use Rattle.ifds_model.specs.State.{At, IsDistinct}
use Rattle.ifds_model.specs.declared.node.Node.{Node}
use Rattle.edge_store.specs.declared.page.Page.{Page}
use Rattle.edge_store.specs.Pages.{Spot, spot, edge_at, fact_at, bits_below, page_edges, edges_of, page_of, bit_of, node_at, page_with, Marked}
use Rattle.edge_store.proofs.Listed.{same_number_or_not}
use Rattle.edge_store.proofs.Paged.{at_once, node_same, page_back, bit_back, way_small}

distinct_nil : {X : Type 0} → IsDistinct {X = X} []
distinct_nil i j d below within same = omega arith

-- an item goes before others that lack it
cons_once : {X : Type 0} (x : X) (xs : List X) → IsDistinct xs → (Contains xs x → ⊥) → IsDistinct (x ∷ xs)
cons_once x xs distinct lacks i zero d below within same = omega arith
cons_once x xs distinct lacks zero (suc j) d below within same = lacks (subst (Contains xs) (sym same) (Contains-get_or xs j d (omega arith)))
cons_once x xs distinct lacks (suc i) (suc j) d below within same = distinct i j d (omega arith) (omega arith) same

cond_once : (t : Bool) (n : ℕ) → IsDistinct (cond t (n ∷ []) [])
cond_once true n i j d below within same = omega arith
cond_once false n i j d below within same = omega arith

none_in_nil : {X : Type 0} (x : X) → Contains [] x → ⊥
none_in_nil x has = let below = has.1 in omega arith

only_one : {X : Type 0} (x y : X) → Contains (x ∷ []) y → x ≡ y
only_one x y has = elim (cons_cases x [] y has) [ inl same ↦ same | inr none ↦ absurd (none_in_nil y none) ]

first_of_all : {X : Type 0} (x : X) (xs : List X) → Contains (x ∷ xs) x
first_of_all x xs = (0, omega arith, refl)

later : {X : Type 0} (x : X) (xs : List X) (y : X) → Contains xs y → Contains (x ∷ xs) y
later x xs y has = (suc has.0, omega (arith, has.1), has.2)

in_map : {X Y : Type 0} (f : X → Y) (xs : List X) (x : X) → Contains xs x → Contains (map f xs) (f x)
in_map f [] x has = absurd (none_in_nil x has)
in_map f (y ∷ xs) x has = elim (cons_cases y xs x has) [
  | inl same ↦ subst (λ z. Contains (map f (y ∷ xs)) (f z)) same (first_of_all (f y) (map f xs))
  | inr there ↦ later (f y) (map f xs) (f x) (in_map f xs x there)
]

of_map : {X Y : Type 0} (f : X → Y) (xs : List X) (y : Y) → Contains (map f xs) y → (x : X) × Contains xs x × (f x ≡ y)
of_map f [] y has = absurd (none_in_nil y has)
of_map f (x ∷ xs) y has = elim (cons_cases (f x) (map f xs) y has) [
  | inl same ↦ (x, first_of_all x xs, same)
  | inr there ↦ let found = of_map f xs y there in (found.0, later x xs found.0 found.1, found.2)
]

in_flat : {X Y : Type 0} (f : X → List Y) (xs : List X) (x : X) (y : Y) → Contains xs x → Contains (f x) y → Contains (flat_map f xs) y
in_flat f [] x y has in_it = absurd (none_in_nil x has)
in_flat f (z ∷ xs) x y has in_it = elim (cons_cases z xs x has) [
  | inl same ↦ Contains-append_left (f z) (flat_map f xs) y (subst (λ w. Contains (f w) y) (sym same) in_it)
  | inr there ↦ Contains-append_right (f z) (flat_map f xs) y (in_flat f xs x y there in_it)
]

of_flat : {X Y : Type 0} (f : X → List Y) (xs : List X) (y : Y) → Contains (flat_map f xs) y → (x : X) × Contains xs x × Contains (f x) y
of_flat f [] y has = absurd (none_in_nil y has)
of_flat f (x ∷ xs) y has = elim (Contains-append_cases (f x) (flat_map f xs) y has) [
  | inl here ↦ (x, first_of_all x xs, here)
  | inr there ↦ let found = of_flat f xs y there in (found.0, later x xs found.0 found.1, found.2)
]

bit_case : (t : Bool) (n i : ℕ) → Contains (cond t (n ∷ []) []) i → (t ≡ true) × (n ≡ i)
bit_case true n i has = (refl, only_one n i has)
bit_case false n i has = absurd (none_in_nil i has)

of_bits : (n bits i : ℕ) → Contains (bits_below n bits) i → (i < n) × (bit_at bits i ≡ 1)
unfolding bits_below
of_bits zero bits i has = absurd (none_in_nil i has)
of_bits (suc n) bits i has = elim (Contains-append_cases (cond (bit_at bits n == 1) (n ∷ []) []) (bits_below n bits) i has) [
  | inl here ↦ let at = bit_case (bit_at bits n == 1) n i here in (omega (arith, at.1), ap (bit_at bits) (sym at.1) ∙ eqb-true (bit_at bits n) 1 at.0)
  | inr there ↦ let found = of_bits n bits i there in (omega (arith, found.0), found.1)
]

in_bits : (n bits i : ℕ) → i < n → bit_at bits i ≡ 1 → Contains (bits_below n bits) i
unfolding bits_below
in_bits zero bits i below one = absurd (omega arith)
in_bits (suc n) bits i below one = elim (same_number_or_not i n) [
  | inl same ↦
      let set : (bit_at bits n == 1) ≡ true = eq-eqb (bit_at bits n) 1 (ap (bit_at bits) (sym same) ∙ one) in
      Contains-append_left (cond (bit_at bits n == 1) (n ∷ []) []) (bits_below n bits) i
      (subst (λ (t : Bool). Contains (cond t (n ∷ []) []) i) (sym set) (subst (λ (k : ℕ). Contains (k ∷ []) i) same (first_of_all i [])))
  | inr apart ↦ Contains-append_right (cond (bit_at bits n == 1) (n ∷ []) []) (bits_below n bits) i (in_bits n bits i (omega arith) one)
]

bit_small : (node : Node) → bit_of node < 64
bit_small node = let way = way_small node.dir in omega arith

module _ {F : Type 0} where
  of_fact : (facts : List F) (n : ℕ) (f : F) → Contains (fact_at facts n) f → At facts n f
  unfolding fact_at
  of_fact [] n f has = absurd (none_in_nil f has)
  of_fact (g ∷ facts) zero f has = (omega arith, only_one g f has)
  of_fact (g ∷ facts) (suc n) f has = let found = of_fact facts n f has in (omega (arith, found.0), found.1)

  in_fact : (facts : List F) (n : ℕ) (f : F) → At facts n f → Contains (fact_at facts n) f
  unfolding fact_at
  in_fact [] n f at = absurd (omega (arith, at.0))
  in_fact (g ∷ facts) zero f at = (0, omega arith, at.1)
  in_fact (g ∷ facts) (suc n) f at = in_fact facts n f (omega (arith, at.0), at.1)

  -- what an edge of a page is
  pub record OnPage (facts : List F) (page : Page) (bits : ℕ) (e : Spot F) : Type 0 where
    pub fact : At facts page.fact e.fact
    pub context : page.context ≡ e.context
    pub number : page.number ≡ page_of e.node
    pub bit : bit_at bits (bit_of e.node) ≡ 1

  of_page : (facts : List F) (page : Page) (bits : ℕ) (e : Spot F) → Contains (page_edges facts page bits) e → OnPage facts page bits e
  unfolding page_edges
  of_page facts page bits e has =
      let at = of_flat (λ fact. map (edge_at page fact) (bits_below 64 bits)) (fact_at facts page.fact) e has in
      let f : F = at.0 in
      let found = of_map (edge_at page f) (bits_below 64 bits) e at.2 in
      let i : ℕ = found.0 in
      let is : edge_at page f i ≡ e = found.2 in
      let set = of_bits 64 bits i found.1 in
      let bit : bit_of (node_at page.number i) ≡ i = bit_back page.number i set.0 in
      subst (OnPage facts page bits) is (record {
        fact = of_fact facts page.fact f at.1;
        context = refl;
        number = sym (page_back page.number i set.0);
        bit = ap (bit_at bits) bit ∙ set.1;
      })

  in_page : (facts : List F) (page : Page) (bits : ℕ) (e : Spot F) → OnPage facts page bits e → Contains (page_edges facts page bits) e
  unfolding page_edges
  in_page facts page bits e on =
      let i : ℕ = bit_of e.node in
      let small : i < 64 = bit_small e.node in
      let node : node_at page.number i ≡ e.node = node_same (node_at page.number i) e.node (page_back page.number i small ∙ on.number) (bit_back page.number i small) in
      let is : edge_at page e.fact i ≡ e = ap (λ (k : ℕ). spot k (node_at page.number i) e.fact) on.context ∙ ap (λ (n : Node). spot e.context n e.fact) node in
      subst (Contains (flat_map (λ fact. map (edge_at page fact) (bits_below 64 bits)) (fact_at facts page.fact))) is
      (in_flat (λ fact. map (edge_at page fact) (bits_below 64 bits)) (fact_at facts page.fact) e.fact (edge_at page e.fact i) (in_fact facts page.fact e.fact on.fact)
      (in_map (edge_at page e.fact) (bits_below 64 bits) i (in_bits 64 bits i small on.bit)))

  of_edges : (facts : List F) (pages : List Page) (bits : List ℕ) (e : Spot F) → Contains (edges_of facts pages bits) e
      → (p : Page) × (n : ℕ) × At pages n p × OnPage facts p (get_or bits n 0) e
  unfolding edges_of
  of_edges facts [] bits e has = absurd (none_in_nil e has)
  of_edges facts (p ∷ pages) [] e has = absurd (none_in_nil e has)
  of_edges facts (p ∷ pages) (b ∷ bits) e has = elim (Contains-append_cases (page_edges facts p b) (edges_of facts pages bits) e has) [
    | inl here ↦ (p, 0, (omega arith, refl), of_page facts p b e here)
    | inr there ↦ let found = of_edges facts pages bits e there in (found.0, suc found.1, (omega (arith, found.2.0), found.2.1), found.3)
  ]

  in_edges : (facts : List F) (pages : List Page) (bits : List ℕ) (e : Spot F) (p : Page) (n : ℕ) → At pages n p → n < length bits → OnPage facts p (get_or bits n 0) e
      → Contains (edges_of facts pages bits) e
  unfolding edges_of
  in_edges facts [] bits e p n at below on = absurd (omega (arith, at.0))
  in_edges facts (q ∷ pages) [] e p n at below on = absurd (omega arith)
  in_edges facts (q ∷ pages) (b ∷ bits) e p zero at below on = Contains-append_left (page_edges facts q b) (edges_of facts pages bits) e
      (subst (λ (r : Page). Contains (page_edges facts r b) e) (sym at.1) (in_page facts p b e on))
  in_edges facts (q ∷ pages) (b ∷ bits) e p (suc n) at below on = Contains-append_right (page_edges facts q b) (edges_of facts pages bits) e
      (in_edges facts pages bits e p n (omega (arith, at.0), at.1) (omega arith) on)

  pub marked_of : (facts : List F) (pages : List Page) (bits : List ℕ) (e : Spot F) → Contains (edges_of facts pages bits) e → Marked facts pages bits e
  marked_of facts pages bits e has =
      let found = of_edges facts pages bits e has in
      let p : Page = found.0 in
      let on = found.3 in
      let is : p ≡ page_with e.context p.fact (page_of e.node) = ap (λ (k : ℕ). page_with k p.fact p.number) on.context ∙ ap (λ (k : ℕ). page_with e.context p.fact k) on.number in
      record {
        number = p.fact;
        fact = on.fact;
        bit = (found.1, subst (λ (q : Page). At pages found.1 q) is found.2, on.bit);
      }

  pub held_of : (facts : List F) (pages : List Page) (bits : List ℕ) (e : Spot F) → Marked facts pages bits e → Contains (edges_of facts pages bits) e
  held_of facts pages bits e m =
      let n : ℕ = m.bit.0 in
      let one : bit_at (get_or bits n 0) (bit_of e.node) ≡ 1 = m.bit.2 in
      let below : n < length bits = elim (same_number_or_not (length bits - n) 0) [
        | inl past ↦ absurd (let none : bit_at (get_or bits n 0) (bit_of e.node) ≡ 0 = ap (λ (w : ℕ). bit_at w (bit_of e.node)) (get_or_past bits n 0 (omega arith)) ∙ bit_at-zero (bit_of e.node) in omega arith)
        | inr inside ↦ omega arith
      ] in
      in_edges facts pages bits e (page_with e.context m.number (page_of e.node)) n m.bit.1 below
      (record { fact = m.fact; context = refl; number = refl; bit = one })

-- no edge is there twice
append_once : {X : Type 0} (xs ys : List X) → IsDistinct xs → IsDistinct ys → ((x : X) → Contains xs x → Contains ys x → ⊥) → IsDistinct (xs ++ ys)
append_once [] ys left right apart = right
append_once (x ∷ xs) ys left right apart = cons_once x (xs ++ ys) (append_once xs ys (λ i j d below within. left (suc i) (suc j) d (omega arith) (omega arith)) right (λ y has. apart y (later x xs y has)))
    (λ has. elim (Contains-append_cases xs ys x has) [
      | inl again ↦ left 0 (suc again.0) x (omega arith) (let below = again.1 in omega arith) (sym again.2)
      | inr there ↦ apart x (first_of_all x xs) there
    ])

map_once : {X Y : Type 0} (f : X → Y) (xs : List X) → ((x y : X) → Contains xs x → Contains xs y → f x ≡ f y → x ≡ y) → IsDistinct xs → IsDistinct (map f xs)
map_once f [] one distinct = distinct_nil
map_once {X} {Y} f (x ∷ xs) one distinct = cons_once (f x) (map f xs) (map_once f xs (λ a b in_a in_b. one a b (later x xs a in_a) (later x xs b in_b)) (λ i j d below within. distinct (suc i) (suc j) d (omega arith) (omega arith)))
    (λ has.
    let from = of_map f xs (f x) has in
    let again : Contains xs x = subst (Contains xs) (one from.0 x (later x xs from.0 from.1) (first_of_all x xs) from.2) from.1 in
    distinct 0 (suc again.0) x (omega arith) (let below = again.1 in omega arith) (sym again.2))

bits_once : (n bits : ℕ) → IsDistinct (bits_below n bits)
unfolding bits_below
bits_once zero bits = distinct_nil
bits_once (suc n) bits = append_once (cond (bit_at bits n == 1) (n ∷ []) []) (bits_below n bits) (cond_once (bit_at bits n == 1) n) (bits_once n bits)
    (λ i here there. let at = bit_case (bit_at bits n == 1) n i here in let below = of_bits n bits i there in omega (arith, at.1, below.0))

module _ {F : Type 0} (facts : List F) where
  facts_once : (page : Page) (bits : ℕ) (fs : List F) → length fs ≤ 1 → IsDistinct (flat_map (λ fact. map (edge_at page fact) (bits_below 64 bits)) fs)
  facts_once page bits [] one = distinct_nil
  facts_once page bits (f ∷ []) one = append_once (map (edge_at page f) (bits_below 64 bits)) [] (map_once (edge_at page f) (bits_below 64 bits)
      (λ i j in_i in_j same.
      let small_i = of_bits 64 bits i in_i in
      let small_j = of_bits 64 bits j in_j in
      sym (bit_back page.number i small_i.0) ∙ ap (λ (e : Spot F). bit_of e.node) same ∙ bit_back page.number j small_j.0)
      (bits_once 64 bits)) distinct_nil (λ x here none. none_in_nil x none)
  facts_once page bits (f ∷ g ∷ fs) one = absurd (omega arith)

  short_fact : (fs : List F) (n : ℕ) → length (fact_at fs n) ≤ 1
  unfolding fact_at
  short_fact [] n = omega arith
  short_fact (f ∷ fs) zero = omega arith
  short_fact (f ∷ fs) (suc n) = short_fact fs n

  page_once : (page : Page) (bits : ℕ) → IsDistinct (page_edges facts page bits)
  unfolding page_edges
  page_once page bits = facts_once page bits (fact_at facts page.fact) (short_fact facts page.fact)

  pub edges_once : (pages : List Page) (bits : List ℕ) → IsDistinct facts → IsDistinct pages → IsDistinct (edges_of facts pages bits)
  unfolding edges_of
  edges_once [] bits distinct once = distinct_nil
  edges_once (page ∷ pages) [] distinct once = distinct_nil
  edges_once (page ∷ pages) (b ∷ bits) distinct once = append_once (page_edges facts page b) (edges_of facts pages bits) (page_once page b)
      (edges_once pages bits distinct (λ i j d below within. once (suc i) (suc j) d (omega arith) (omega arith)))
      (λ e here there.
      let on = of_page facts page b e here in
      let found = of_edges facts pages bits e there in
      let q : Page = found.0 in
      let too = found.3 in
      let fact : page.fact ≡ q.fact = at_once facts page.fact q.fact e.fact distinct on.fact too.fact in
      let same : page ≡ q = ap (λ (k : ℕ). page_with k page.fact page.number) (on.context ∙ sym too.context) ∙ ap (λ (k : ℕ). page_with q.context k page.number) fact ∙ ap (λ (k : ℕ). page_with q.context q.fact k) (on.number ∙ sym too.number) in
      once 0 (suc found.1) page (omega arith) (let below = found.2.0 in omega arith) (sym (subst (λ (p : Page). get_or pages found.1 p ≡ p) (sym same) found.2.1)))
