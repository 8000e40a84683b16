-- The entries of one list, and its room, whichever way it is kept.
use Rattle.std.specs.Prelude.{ℕ, ◌-◌, List, vec_len, vec_capacity}
use Rattle.indexmap.specs.IndexSet.{spare}
use Rattle.entry_tables.specs.declared.kept.Kept.{Kept}
use Rattle.entry_tables.specs.declared.kept.Kept.TheVariants.{Short, Long}

abbrev pub items_of : {T : Type 0} → Kept T → List T
items_of (Short row) = row.items
items_of (Long set) = set.value.keys

abbrev pub spare_of : {T : Type 0} → Kept T → ℕ
spare_of (Short row) = vec_capacity row - vec_len row
spare_of (Long set) = spare set.value
