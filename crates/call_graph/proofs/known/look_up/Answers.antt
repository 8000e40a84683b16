use Rattle.std.proofs.Common.{◌↔◌, List, Contains, map, sym, subst}
use Rattle.std.specs.List.Sorted.{IsStrictlyIncreasing}
use Rattle.clean_base.specs.declared.ids.MethodId.{MethodId}
use Rattle.call_graph.proofs.Knowing.{known_is}
use Rattle.call_graph.specs.Calls.{IsNeither, IsTargetOf}
use Rattle.call_graph.proofs.known.look_up.Goals as goal

pub returns : goal.returns
returns c =
    let up = λ (ms : List MethodId). IsStrictlyIncreasing (map (λ (m : MethodId). m.0) ms) in
    let exact = λ (ms : List MethodId). (n : MethodId) → Contains ms n ↔ (IsTargetOf c.args.table.now c.args.kind c.args.sig.now n × IsNeither c.in_ok-said.said) in
    known_is c.args.table.now c.args.lists.now c.args.kind c.args.sig.now c.in_ok-said.said c.from_vec.result c.in_ok-said.ensures.source c.in_ok-said.ensures.sink
    (subst up (sym c.from_vec.ensures) c.in_ok-targets.ensures.ascending)
    (subst exact (sym c.from_vec.ensures) c.in_ok-targets.ensures.exact)
