use Rattle.std.proofs.Common.{map, sym}
use Rattle.name_index.proofs.Named.{index_all, name_at}
use Rattle.class_table.specs.Index.{name_of}
use Rattle.class_table.proofs.index.index_of.Goals as goal

pub loop-place-preserved : goal.loop-place-preserved
loop-place-preserved c =
    let methods = c.args.methods.now in
    c.in_ok-add.ensures (map name_of methods) (name_at name_of methods c.loop-place.place c.index-methods-place.result (c.loop-place-test.true, sym c.index-methods-place.is)) c.loop-place.invariant

pub returns : goal.returns
returns c = index_all name_of c.args.methods.now c.loop-place.place c.loop-place.index c.loop-place-test.false c.loop-place.invariant
