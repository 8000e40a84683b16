-- What adding an edge does, from what holding a bit does.
use Rattle.std.proofs.Common.{◌≡◌, ℕ, zero, suc, ◌+◌, ◌<◌, ◌≤◌, List, [], ◌∷◌, Bool, false, IsTrue, length, get_or, sym, subst, arith, inl, inr, ◌⊎◌, refl}
use Rattle.std.specs.Prelude.{Contains}
use Rattle.ifds_model.specs.State.{At, IsDistinct}
use Rattle.ifds_model.specs.declared.node.Node.{Node}
use Rattle.edge_store.specs.declared.page.Page.{Page}
use Rattle.edge_store.specs.Adds.{AddsEdge}
use Rattle.edge_store.specs.Pages.{Spot, spot, page_of, bit_of, page_with, HasBit, Marked, uses_of}
use Rattle.edge_store.specs.Pool.{Facts, KeepsUsed}
use Rattle.edge_store.specs.Table.{Pages}
use Rattle.edge_store.proofs.Paged.{at_once, edge_kept, edge_from}

-- a number has its fact
pub item_at : {X : Type 0} (xs : List X) (n : ℕ) → n < length xs → (x : X) × At xs n x
item_at [] n within = absurd (omega arith)
item_at (x ∷ xs) zero within = (x, (omega arith, refl))
item_at (x ∷ xs) (suc n) within = let found = item_at xs n (omega arith) in (found.0, (omega (arith, found.1.0), found.1.1))

-- whether the edge of a numbered fact is marked
module _ {F : Type 0} (facts : List F) (pages : List Page) (bits : List ℕ) (context : ℕ) (node : Node) (fact : F) (number page place : ℕ) (page_is : page ≡ page_of node) (place_is : place ≡ bit_of node)
    (at : At facts number fact) where
  to_node : HasBit pages bits (page_with context number page) place → HasBit pages bits (page_with context number (page_of node)) (bit_of node)
  to_node has = subst (λ (n : ℕ). HasBit pages bits (page_with context number n) (bit_of node)) page_is (subst (λ (n : ℕ). HasBit pages bits (page_with context number page) n) place_is has)

  of_node : HasBit pages bits (page_with context number (page_of node)) (bit_of node) → HasBit pages bits (page_with context number page) place
  of_node has = subst (λ (n : ℕ). HasBit pages bits (page_with context number page) n) (sym place_is) (subst (λ (n : ℕ). HasBit pages bits (page_with context number n) (bit_of node)) (sym page_is) has)

  pub is_marked : HasBit pages bits (page_with context number page) place → Marked facts pages bits (spot context node fact)
  is_marked has = record { number = number; fact = at; bit = to_node has }

  pub is_bare : IsDistinct facts → (HasBit pages bits (page_with context number page) place → ⊥) → Marked facts pages bits (spot context node fact) → ⊥
  is_bare distinct lacks m = lacks (of_node (subst (λ (k : ℕ). HasBit pages bits (page_with context k (page_of node)) (bit_of node)) (at_once facts m.number number fact distinct m.fact at) m.bit))

pub not_there : {F : Type 0} (facts : List F) (pages : List Page) (bits : List ℕ) (e : Spot F) → (Contains facts e.fact → ⊥) → Marked facts pages bits e → ⊥
not_there facts pages bits e lacks m = lacks (m.number, m.fact.0, m.fact.1)

-- a bit is held
module _ {F : Type 0} (pool more : Facts F) (t u : Pages) (context : ℕ) (node : Node) (fact : F) (number page place : ℕ) (page_is : page ≡ page_of node) (place_is : place ≡ bit_of node)
    (at : At pool.facts number fact) (distinct : IsDistinct pool.facts) (used : (p : Page) → Contains t.pages p → 0 < get_or pool.counts p.fact 0) (fresh : Bool) (same : more.facts ≡ pool.facts) where
  keeps : KeepsUsed pool.counts pool.facts more.facts
  keeps n f some at_n = subst (λ (fs : List F). At fs n f) (sym same) at_n

  keeps_back : KeepsUsed pool.counts more.facts pool.facts
  keeps_back n f some at_n = subst (λ (fs : List F). At fs n f) same at_n

  at_more : At more.facts number fact
  at_more = subst (λ (fs : List F). At fs number fact) (sym same) at

  pub adds_held : (IsTrue fresh → HasBit t.pages t.bits (page_with context number page) place → ⊥) → (fresh ≡ false → HasBit t.pages t.bits (page_with context number page) place)
      → HasBit u.pages u.bits (page_with context number page) place
      → ((q : Page) (b : ℕ) → HasBit t.pages t.bits q b → HasBit u.pages u.bits q b)
      → ((q : Page) (b : ℕ) → HasBit u.pages u.bits q b → HasBit t.pages t.bits q b ⊎ ((q ≡ page_with context number page) × (b ≡ place)))
      → ((p : Page) → Contains u.pages p → Contains t.pages p ⊎ ((b : ℕ) × (b < 64) × HasBit u.pages u.bits p b))
      → ((n : ℕ) → get_or more.counts n 0 + uses_of t.pages n ≡ get_or pool.counts n 0 + uses_of u.pages n)
      → (IsTrue fresh → u.held ≡ t.held + 1) → (fresh ≡ false → u.held ≡ t.held) → more.used ≤ pool.used + 1 → more.spare ≡ pool.spare → u.room + 1 ≡ t.room → IsDistinct u.pages
      → AddsEdge pool more t u (spot context node fact) fresh
  adds_held is_new was there kept from full counts raised stays uses spare left once = record {
    is_new = λ is_fresh. is_bare pool.facts t.pages t.bits context node fact number page place page_is place_is at distinct (is_new is_fresh);
    was = λ stale. is_marked pool.facts t.pages t.bits context node fact number page place page_is place_is at (was stale);
    there = is_marked more.facts u.pages u.bits context node fact number page place page_is place_is at_more there;
    kept = edge_kept pool.facts more.facts t.pages u.pages t.bits u.bits pool.counts context node fact number used keeps keeps_back kept;
    from = edge_from pool.facts more.facts t.pages u.pages t.bits u.bits pool.counts context node fact number used keeps keeps_back page place page_is place_is at_more from;
    numbers = keeps;
    numbers_back = keeps_back;
    full = full;
    bits = kept;
    counts = counts;
    raised = raised;
    stays = stays;
    used = uses;
    spare = omega arith;
    left = left;
    once = once;
  }

-- a new fact gets a number before its edge is added
module _ {F : Type 0} (pool put more : Facts F) (t u : Pages) (x : Spot F) (fresh : Bool) (used : (p : Page) → Contains t.pages p → 0 < get_or pool.counts p.fact 0)
    (keeps : KeepsUsed pool.counts pool.facts put.facts) (back : KeepsUsed pool.counts put.facts pool.facts) (counts : (n : ℕ) → get_or put.counts n 0 ≡ get_or pool.counts n 0) where
  pub used_put : (p : Page) → Contains t.pages p → 0 < get_or put.counts p.fact 0
  used_put p has = omega (arith, counts p.fact, used p has)

  pub adds_put : (Contains pool.facts x.fact → ⊥) → put.used ≡ pool.used → pool.spare ≤ put.spare + 1 → more.spare ≡ put.spare → AddsEdge put more t u x fresh → AddsEdge pool more t u x fresh
  adds_put unknown uses spare stays adds =
      let forth : (e : Spot F) → Marked pool.facts t.pages t.bits e → Marked put.facts t.pages t.bits e =
      edge_kept pool.facts put.facts t.pages t.pages t.bits t.bits pool.counts 0 x.node x.fact 0 used keeps back (λ q b has. has) in
      let home : (e : Spot F) → Marked put.facts t.pages t.bits e → Marked pool.facts t.pages t.bits e =
      edge_kept put.facts pool.facts t.pages t.pages t.bits t.bits pool.counts 0 x.node x.fact 0 used back keeps (λ q b has. has) in
      record {
        is_new = λ is_fresh. not_there pool.facts t.pages t.bits x unknown;
        was = λ stale. home x (adds.was stale);
        there = adds.there;
        kept = λ e m. adds.kept e (forth e m);
        from = λ e m. elim (adds.from e m) [ inl old ↦ inl (home e old) | inr new ↦ inr new ];
        numbers = λ n f some at. adds.numbers n f (omega (arith, counts n)) (keeps n f some at);
        numbers_back = λ n f some at. back n f some (adds.numbers_back n f (omega (arith, counts n)) at);
        full = adds.full;
        bits = adds.bits;
        counts = λ n. omega (arith, counts n, adds.counts n);
        raised = adds.raised;
        stays = adds.stays;
        used = omega (arith, adds.used);
        spare = omega arith;
        left = adds.left;
        once = adds.once;
      }
