-- What the pass over names gives: a tree where there is no fault, and else the first fault.
use Rattle.std.specs.Prelude.{◌≡◌, Option, Some, None, Result, Ok, Err}
use Rattle.jimple_names.specs.declared.stop.NameFault.{NameFault}
use Rattle.jimple_names.specs.declared.stop.NameStop.{NameStop}
use Rattle.jimple_names.specs.declared.stop.NameStop.TheVariants as stops

-- the tree of a form, seen so, where it has no fault; its first fault; or want of memory at any time
abbrev pub Named : {X Y : Type 0} → (X → Y) → Result X NameStop → Y → Option NameFault → Type 0
Named view (Ok x) tree fault = (fault ≡ None) × (view x ≡ tree)
Named view (Err stops.OutOfMemory) tree fault = Unit {0}
Named view (Err (stops.Fault f)) tree fault = fault ≡ Some f
