use Rattle.std.proofs.Common.{◌↔◌, Contains}
use Rattle.clean_base.specs.declared.ids.MethodId.{MethodId}
use Rattle.call_graph.proofs.Resolved.{ResolvesTo}
use Rattle.call_graph.proofs.calls.resolved_in.Given as goal

abbrev pub invariant-loop-number : goal.invariant-loop-number
invariant-loop-number l = (n : MethodId) → Contains l.found.items n ↔ ResolvesTo l.table l.marks l.number l.sig n
