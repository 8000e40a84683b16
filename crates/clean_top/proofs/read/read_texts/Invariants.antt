use Rattle.std.proofs.Common.{◌≡◌, ◌≤◌, ◌+◌, All, List, ℕ, drop, length, map}
use Rattle.clean_stage.specs.Stage.{Leaves}
use Rattle.clean_top.specs.Reading.{IsOf, Tells, fitting, room_bytes}
use Rattle.clean_top.proofs.read.read_texts.Given as goal

abbrev pub invariant-loop-name : goal.invariant-loop-name
invariant-loop-name g l =
    let holds = g.S.Shelf.holds in
    let faults = g.S.Shelf.faults in
    record {
      numbered : l.file ≡ l.fn.first + l.name-index;
      count : length l.texts.items ≡ l.name-index;
      room : room_bytes l.left ≤ room_bytes l.fn.room;
      of : All (IsOf (l.fn.first + length l.names)) l.texts.items;
      same : (other : List ℕ) → holds l.shelf other ≡ holds l.fn.shelf other;
      later : (other : List ℕ) → faults l.fn.shelf other ≤ faults l.shelf other;
      leaves : (files : List ℕ → List ℕ) → Tells (holds l.fn.shelf) l.names files
          → Leaves (fitting l.fn.room l.fn.first (map files l.names)) (fitting l.left l.file (map files (drop l.name-index l.names))) l.texts.items;
    }
