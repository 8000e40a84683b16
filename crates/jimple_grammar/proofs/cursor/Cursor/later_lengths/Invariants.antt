use Rattle.std.proofs.Common.{◌≡◌, ◌++◌, List, length}
use Rattle.jimple_grammar.specs.declared.raw.RawImm.{RawImm}
use Rattle.jimple_grammar.specs.Reading.{reading}
use Rattle.jimple_grammar.specs.Forms.{element, brackets, before_length, lengths_and_bare, later_lengths}
use Rattle.jimple_grammar.proofs.Loops.{Onward}
use Rattle.jimple_grammar.proofs.cursor.Cursor.later_lengths.Given as goal

abbrev pub invariant-loop-self : goal.invariant-loop-self
invariant-loop-self l = record {
  pieces : List RawImm;
  are : l.lengths.items ≡ l.fn.lengths.items ++ pieces;
  onward : Onward lengths_and_bare before_length element brackets (reading later_lengths l.fn.self.left.now) pieces l.self.left.now;
}

abbrev pub decreases-loop-self : goal.decreases-loop-self
decreases-loop-self l = length l.self.left.now
