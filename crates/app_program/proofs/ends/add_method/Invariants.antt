use Rattle.statement_graph.specs.Statements.{first_of}
use Rattle.app_program.specs.Ends.{EndsSo}
use Rattle.app_program.proofs.Ending.{Grown}
use Rattle.app_program.proofs.ends.add_method.Given as goal

abbrev pub invariant-loop-s : goal.invariant-loop-s
invariant-loop-s l = Grown l.fn.rows l.views (EndsSo l.end) (first_of l.graph l.fn.m.0) l.s l.rows
