use Rattle.std.proofs.Common.{◌<◌, length, arith}
use Rattle.flat_rows.proofs.Walking.{converse_is}
use Rattle.flat_rows.proofs.backwards.converse.Goals as goal

pub add_chain-requires : goal.add_chain-requires
add_chain-requires c =
    let below : c.loop-node.node < length c.args.rows.now = omega (arith, c.loop-node-test.true, c.len-node-end.ensures) in
    let (ps, chain, up, exact) = c.in_ok-chains.ensures.each c.loop-node.node below in
    (ps, rw (c.as_slice-heads.ensures.value, c.as_slice-links.ensures.value) chain)

pub returns : goal.returns
returns c =
    let chains = c.in_ok-chains.chains in
    converse_is c.args.rows.now c.loop-node.back chains.heads.items chains.links.items c.loop-node.node c.requires.graph c.in_ok-chains.ensures
    (rw (c.as_slice-heads.ensures.value, c.as_slice-links.ensures.value) at c.loop-node.invariant)
    (omega (arith, c.loop-node-test.false, c.loop-node.auto.node-end, c.len-node-end.ensures))
