-- Edges as bits of pages.
use Rattle.std.specs.Prelude.{◌≡◌, ℕ, zero, suc, ◌+◌, ◌*◌, ◌/◌, ◌%◌, ◌==◌, cond, List, [], ◌∷◌, ◌++◌, map, slice_index, bit_or, ◌^◌, count_by}
use Rattle.std.specs.Int.{bit_at}
use Rattle.std.specs.List.{flat_map}
use Rattle.clean_base.specs.Lists.{At}
use Rattle.ifds_model.specs.declared.node.Dir.{Dir}
use Rattle.ifds_model.specs.declared.node.Dir.TheVariants.{Forward, Backward}
use Rattle.ifds_model.specs.declared.node.Node.{Node}
use Rattle.edge_store.specs.declared.page.Page.{Page}

-- an edge, by its context's number
pub record Spot (F : Type 0) : Type 0 where
  pub context : ℕ
  pub node : Node
  pub fact : F

abbrev pub spot : {F : Type 0} → ℕ → Node → F → Spot F
spot context node fact = record { context = context; node = node; fact = fact }

abbrev pub way_of : Dir → ℕ
way_of Forward = 0
way_of Backward = 1

abbrev pub dir_at : ℕ → Dir
dir_at zero = Forward
dir_at (suc n) = Backward

-- the number of a node's page, and its place there
abbrev pub page_of : Node → ℕ
page_of node = node.stmt.0 / 32

abbrev pub bit_of : Node → ℕ
bit_of node = node.stmt.0 % 32 * 2 + way_of node.dir

abbrev pub node_at : ℕ → ℕ → Node
node_at page bit = record { stmt = record { 0 = page * 32 + bit / 2 }; dir = dir_at (bit % 2) }

abbrev pub page_with : ℕ → ℕ → ℕ → Page
page_with context fact number = record { context = context; fact = fact; number = number }

-- the places below n of the bits that are set
unfoldable pub bits_below : ℕ → ℕ → List ℕ
bits_below zero bits = []
bits_below (suc n) bits = cond (bit_at bits n == 1) (n ∷ []) [] ++ bits_below n bits

module _ {F : Type 0} where
  -- the edge that a bit of a page is
  abbrev pub edge_at : Page → F → ℕ → Spot F
  edge_at page fact bit = spot page.context (node_at page.number bit) fact

  -- the fact with this number, if there is one
  unfoldable pub fact_at : List F → ℕ → List F
  fact_at [] n = []
  fact_at (f ∷ facts) zero = f ∷ []
  fact_at (f ∷ facts) (suc n) = fact_at facts n

  -- the edges of a page
  unfoldable pub page_edges : List F → Page → ℕ → List (Spot F)
  page_edges facts page bits = flat_map (λ fact. map (edge_at page fact) (bits_below 64 bits)) (fact_at facts page.fact)

  -- the edges of a table of pages
  unfoldable pub edges_of : List F → List Page → List ℕ → List (Spot F)
  edges_of facts [] bits = []
  edges_of facts (page ∷ pages) [] = []
  edges_of facts (page ∷ pages) (b ∷ bits) = page_edges facts page b ++ edges_of facts pages bits

-- a page's bits with one more
abbrev pub with_bit : ℕ → ℕ → ℕ
with_bit bits place = bit_or bits (1 * 2 ^ place % 2 ^ 64)

-- a page has a bit
abbrev pub HasBit : List Page → List ℕ → Page → ℕ → Type 0
HasBit pages bits page place = (at : ℕ) × At pages at page × (bit_at (slice_index bits at) place ≡ 1)

-- how many of the pages have this fact
abbrev pub uses_of : List Page → ℕ → ℕ
uses_of pages fact = count_by (λ (p : Page). p.fact == fact) pages

module _ {F : Type 0} where
  -- an edge by what is stored: its fact has a number, and the page of that number has the bit of its node
  pub record Marked (facts : List F) (pages : List Page) (bits : List ℕ) (e : Spot F) : Type 0 where
    pub number : ℕ
    pub fact : At facts number e.fact
    pub bit : HasBit pages bits (page_with e.context number (page_of e.node)) (bit_of e.node)
