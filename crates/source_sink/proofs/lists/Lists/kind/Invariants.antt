use Rattle.std.proofs.Common.{◌↔◌, IsTrue, take}
use Rattle.source_sink.specs.declared.line.Line.{Line}
use Rattle.source_sink.specs.ReadingLists.{SaysAt}
use Rattle.source_sink.proofs.Named.{asked}
use Rattle.source_sink.proofs.lists.Lists.kind.Given as goal

abbrev pub invariant-loop-number : goal.invariant-loop-number
invariant-loop-number l = record {
  source : IsTrue l.kind.source ↔ SaysAt l.lines (take l.number-index l.number-items) (asked l.class l.sig) (λ (line : Line). line.source);
  sink : IsTrue l.kind.sink ↔ SaysAt l.lines (take l.number-index l.number-items) (asked l.class l.sig) (λ (line : Line). line.sink);
}
