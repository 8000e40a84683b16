use Rattle.std.proofs.Common.{◌≡◌, ◌++◌, length, take, drop, arith}
use Rattle.std.proofs.lemmas.List.{take_at}
use Rattle.statement_graph.proofs.Gathered.{lists_exact}
use Rattle.statement_graph.proofs.bodies.lists_of.Goals as goal

pub returns-clause-exact : goal.returns-clause-exact
returns-clause-exact c =
    let all = c.add_catches.new.lists in
    let back : take c.in_ok-lists.lists.len (all ++ drop (length all) c.in_ok-lists.lists.items) ≡ all =
    take_at all _ c.in_ok-lists.lists.len (omega (arith, c.add_catches.auto.lists, c.as_mut_slice.ensures.len)) in
    rw back (lists_exact c.args.body.now c.as_slice.result.now c.as_slice-2.result.now c.in_ok-lists.lists.items c.as_mut_slice.result.now all c.as_slice.ensures c.as_slice-2.ensures c.as_mut_slice.ensures.value
    c.in_ok-lists.ensures.len c.in_ok-lists.ensures.own c.in_ok-add_catches.ensures)
