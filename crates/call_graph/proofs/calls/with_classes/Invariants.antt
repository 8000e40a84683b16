use Rattle.std.proofs.Common.{◌↔◌, ◌⊎◌, IsTrue}
use Rattle.source_sink.specs.declared.line.Line.{Line}
use Rattle.call_graph.proofs.Saying.{SaysTo}
use Rattle.call_graph.proofs.calls.with_classes.Given as goal

abbrev pub invariant-loop-number : goal.invariant-loop-number
invariant-loop-number l = record {
  source : IsTrue l.all.source ↔ (IsTrue l.fn.kind.source ⊎ SaysTo l.table l.lists l.marks l.number l.sig (λ (line : Line). line.source));
  sink : IsTrue l.all.sink ↔ (IsTrue l.fn.kind.sink ⊎ SaysTo l.table l.lists l.marks l.number l.sig (λ (line : Line). line.sink));
}
