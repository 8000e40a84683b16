use Rattle.std.proofs.Common.{◌≡◌, List, ◌++◌, length}
use Rattle.jimple_tree.specs.declared.tree.JType.{JType}
use Rattle.source_sink.specs.Reading.{read_later}
use Rattle.source_sink.proofs.Loops.{Onward}
use Rattle.source_sink.proofs.cursor.Cursor.take_later.Given as goal

abbrev pub invariant-later : goal.invariant-later
invariant-later l = record {
  done : List JType;
  types : l.types.items ≡ l.fn.types.items ++ done;
  onward : Onward (read_later (length l.fn.self.left.now) l.fn.self.left.now) done l.self.left.now;
}

abbrev pub decreases-later : goal.decreases-later
decreases-later l = length l.self.left.now
