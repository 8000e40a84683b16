use Rattle.std.proofs.Common.{◌≡◌, ◌++◌, flat_map, take}
use Rattle.clean_top.specs.Graph.{call_text}
use Rattle.clean_top.proofs.graph.write_calls.Given as goal

abbrev pub invariant-loop-call : goal.invariant-loop-call
invariant-loop-call l = l.out.items ≡ l.fn.out.items ++ flat_map (call_text l.table) (take l.call-index l.calls)
