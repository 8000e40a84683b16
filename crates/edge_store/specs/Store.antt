-- What contracts see of a store of edges: for each method its edges and its room, and the facts by number.
use Rattle.std.specs.Prelude.{◌≡◌, ◌<◌, ◌≤◌, ◌+◌, ◌^◌, ℕ, List, [], ◌++◌, replicate, map, Contains, slice_index, slice_index_or, sum_by}
use Rattle.ifds_model.specs.Runs.{HasCount}
use Rattle.ifds_model.specs.State.{IsDistinct}
use Rattle.edge_store.specs.Pages.{Spot, edges_of, uses_of, HasBit}
use Rattle.edge_store.specs.declared.page.Page.{Page}
use Rattle.edge_store.specs.Pool.{Facts}
use Rattle.edge_store.specs.Table.{Pages, no_pages}

pub record Store (F : Type 0) : Type 0 where
  -- for each method its edges
  pub edges : List (List (Spot F))
  -- a fact's number is its place: that of a held edge stays, and one that no edge has may still stand there
  pub facts : List F
  -- for each method how many edges may still come without memory
  pub spare : List ℕ

module _ {F : Type 0} where
  -- the edges of a method
  abbrev pub edges_under : Store F → ℕ → List (Spot F)
  edges_under s m = slice_index_or s.edges m []

  -- the method holds the edge
  abbrev pub Holds : Store F → ℕ → Spot F → Type 0
  Holds s m e = Contains (edges_under s m) e

  -- an edge that is held has this fact
  abbrev pub IsFact : Store F → F → Type 0
  IsFact s f = (m : ℕ) × (e : Spot F) × Holds s m e × (e.fact ≡ f)

  -- the room of a method
  abbrev pub spare_of : Store F → ℕ → ℕ
  spare_of s m = slice_index s.spare m

-- the table of a method
abbrev pub table_at : List Pages → ℕ → Pages
table_at tables m = slice_index_or tables m no_pages

abbrev pub store_of : {F : Type 0} → List F → List Pages → Store F
store_of facts tables = record {
  edges = map (λ (t : Pages). edges_of facts t.pages t.bits) tables;
  facts = facts;
  spare = map (λ (t : Pages). t.room) tables;
}

-- further tables, without pages or room
abbrev pub IsPadded : List Pages → List Pages → Type 0
IsPadded old new = (n : ℕ) × (new ≡ old ++ replicate n no_pages)

-- the parts fit each other
pub record IsStore {F : Type 0} (pool : Facts F) (tables : List Pages) (room : ℕ) : Type 0 where
  pub distinct : IsDistinct pool.facts
  -- a fact is used once for each page that has it
  pub counted : (n : ℕ) → slice_index pool.counts n ≡ sum_by (λ (t : Pages). uses_of t.pages n) tables
  pub once : (m : ℕ) → IsDistinct (table_at tables m).pages
  pub held : (m : ℕ) → HasCount (Contains (edges_of pool.facts (table_at tables m).pages (table_at tables m).bits)) (table_at tables m).held
  -- no page is empty
  pub full : (m : ℕ) (p : Page) → Contains (table_at tables m).pages p → (b : ℕ) × (b < 64) × HasBit (table_at tables m).pages (table_at tables m).bits p b
  -- there is a number for a new fact of each edge that there is room for
  pub rooms : room ≡ sum_by (λ (t : Pages). t.room) tables
  pub numbers : room ≤ pool.spare
  pub few : pool.used + room < 2 ^ 64
