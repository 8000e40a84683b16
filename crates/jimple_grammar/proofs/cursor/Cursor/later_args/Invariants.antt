use Rattle.std.proofs.Common.{◌≡◌, ◌++◌, ◌-◌, List}
use Rattle.jimple_grammar.specs.declared.raw.RawImm.{RawImm}
use Rattle.jimple_grammar.specs.Reading.{reading}
use Rattle.jimple_grammar.specs.Grammar.{times}
use Rattle.jimple_grammar.specs.Forms.{next_imm}
use Rattle.jimple_grammar.proofs.Loops.{behind}
use Rattle.jimple_grammar.proofs.cursor.Cursor.later_args.Given as goal

abbrev pub invariant-loop : goal.invariant-loop
invariant-loop l = record {
  pieces : List RawImm;
  are : l.args.items ≡ l.fn.args.items ++ pieces;
  goes : reading (times l.count next_imm) l.fn.self.left.now ≡ behind pieces (reading (times (l.count - l.counter) next_imm) l.self.left.now);
}
