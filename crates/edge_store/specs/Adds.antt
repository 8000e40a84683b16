-- What adding one edge does to the pool of facts and to the pages of its method.
use Rattle.std.specs.Prelude.{◌≡◌, ◌<◌, ◌≤◌, ◌+◌, ◌⊎◌, ℕ, Bool, false, IsTrue, Contains, slice_index}
use Rattle.ifds_model.specs.State.{IsDistinct}
use Rattle.edge_store.specs.declared.page.Page.{Page}
use Rattle.edge_store.specs.Pages.{Spot, HasBit, Marked, uses_of}
use Rattle.edge_store.specs.Pool.{Facts, KeepsUsed}
use Rattle.edge_store.specs.Table.{Pages}

pub record AddsEdge {F : Type 0} (pool more : Facts F) (t u : Pages) (x : Spot F) (fresh : Bool) : Type 0 where
  pub is_new : IsTrue fresh → Marked pool.facts t.pages t.bits x → ⊥
  pub was : fresh ≡ false → Marked pool.facts t.pages t.bits x
  pub there : Marked more.facts u.pages u.bits x
  pub kept : (e : Spot F) → Marked pool.facts t.pages t.bits e → Marked more.facts u.pages u.bits e
  pub from : (e : Spot F) → Marked more.facts u.pages u.bits e → Marked pool.facts t.pages t.bits e ⊎ (e ≡ x)
  pub numbers : KeepsUsed pool.counts pool.facts more.facts
  pub numbers_back : KeepsUsed pool.counts more.facts pool.facts
  pub full : (p : Page) → Contains u.pages p → Contains t.pages p ⊎ ((b : ℕ) × (b < 64) × HasBit u.pages u.bits p b)
  pub bits : (q : Page) (b : ℕ) → HasBit t.pages t.bits q b → HasBit u.pages u.bits q b
  pub counts : (n : ℕ) → slice_index more.counts n + uses_of t.pages n ≡ slice_index pool.counts n + uses_of u.pages n
  pub raised : IsTrue fresh → u.held ≡ t.held + 1
  pub stays : fresh ≡ false → u.held ≡ t.held
  pub used : more.used ≤ pool.used + 1
  pub spare : pool.spare ≤ more.spare + 1
  pub left : u.room + 1 ≡ t.room
  pub once : IsDistinct u.pages
