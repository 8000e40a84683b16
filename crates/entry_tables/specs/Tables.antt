-- What contracts see of the tables of contexts.
use Rattle.std.specs.Prelude.{◌≡◌, ◌≤◌, ◌<◌, ◌+◌, ◌-◌, ℕ, List, [], length, take, slice_index}
use Rattle.clean_base.specs.declared.ids.StmtId.{StmtId}
use Rattle.ifds_model.specs.declared.node.Context.{Context}
use Rattle.ifds_model.specs.State.{IsDistinct}
use Rattle.entry_tables.specs.Lists.{list_at, KeepsRoom}
use Rattle.entry_tables.specs.Rows.{Rows, IsEven}
use Rattle.entry_tables.specs.declared.tables.CallSite.{CallSite}

-- The tables: a context's number is its place in the list, and stands for it in every other list.
pub record Tables (F : Type 0) : Type 0 where
  -- the known contexts, each once, in the order of opening
  pub contexts : List (Context F)
  -- for each context its callers, and its exits, each once, in the order of adding
  pub callers : List (List CallSite)
  pub exits : List (List F)
  -- how many further contexts there is room for
  pub spare_contexts : ℕ
  -- the room for callers that each of them has at least, once it is opened
  pub first_callers : ℕ
  -- for each context, how many further callers, and exits, there is room for
  pub spare_callers : List ℕ
  pub spare_exits : List ℕ

abbrev pub call_site : ℕ → StmtId → CallSite
call_site n at = record { caller = n; call = at }

module _ {F : Type 0} where
  -- the callers, and the exits, of the context with this number
  abbrev pub callers_of : Tables F → ℕ → List CallSite
  callers_of t n = list_at t.callers n

  abbrev pub exits_of : Tables F → ℕ → List F
  exits_of t n = list_at t.exits n

  -- each context has its lists and its rooms
  pub record IsWhole (t : Tables F) : Type 0 where
    pub distinct : IsDistinct t.contexts
    pub callers : length t.callers ≡ length t.contexts
    pub exits : length t.exits ≡ length t.contexts
    pub spare_callers : length t.spare_callers ≡ length t.contexts
    pub spare_exits : length t.spare_exits ≡ length t.contexts

  -- the same contexts with the same entries
  abbrev pub IsUnchanged : Tables F → Tables F → Type 0
  IsUnchanged old new = (new.contexts ≡ old.contexts) × (new.callers ≡ old.callers) × (new.exits ≡ old.exits)

  -- no room that was made is less than it was
  pub record KeepsAllRoom (old new : Tables F) : Type 0 where
    pub contexts : old.spare_contexts ≤ new.spare_contexts
    pub first : 0 < old.spare_contexts → old.first_callers ≤ new.first_callers
    pub callers : KeepsRoom old.spare_callers new.spare_callers
    pub exits : KeepsRoom old.spare_exits new.spare_exits

  -- the tables of these parts: lists that are past the last context wait for further ones
  abbrev pub tables_of : List (Context F) → Rows CallSite → Rows F → ℕ → Tables F
  tables_of keys callers exits first = record {
    contexts = keys;
    callers = take (length keys) callers.lists;
    exits = take (length keys) exits.lists;
    spare_contexts = length callers.lists - length keys;
    first_callers = first;
    spare_callers = take (length keys) callers.rooms;
    spare_exits = take (length keys) exits.rooms;
  }

  -- the parts fit each other, and what waits for further contexts is empty
  pub record IsFit (keys : List (Context F)) (spare : ℕ) (callers : Rows CallSite) (exits : Rows F) (first : ℕ) : Type 0 where
    pub distinct : IsDistinct keys
    pub known : length keys ≤ length callers.lists
    pub waiting : length callers.lists ≤ length keys + spare
    pub exits_too : length callers.lists ≤ length exits.lists
    pub callers_even : IsEven callers
    pub exits_even : IsEven exits
    pub no_callers : (k : ℕ) → length keys ≤ k → list_at callers.lists k ≡ []
    pub no_exits : (k : ℕ) → length keys ≤ k → list_at exits.lists k ≡ []
    pub ready : (k : ℕ) → length keys ≤ k → k < length callers.lists → first ≤ slice_index callers.rooms k
