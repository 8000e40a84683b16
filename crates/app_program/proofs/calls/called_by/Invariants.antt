use Rattle.statement_graph.specs.Statements.{first_of}
use Rattle.app_program.proofs.Calling.{Gained}
use Rattle.app_program.proofs.calls.called_by.Given as goal

abbrev pub invariant-loop-s : goal.invariant-loop-s
invariant-loop-s l = Gained l.targets (first_of l.graph l.fn.m.0) l.s l.called.items
