use Rattle.std.proofs.Common.{map, sym}
use Rattle.name_index.proofs.Named.{index_all, name_at}
use Rattle.source_sink.specs.ReadingLists.{name_of}
use Rattle.source_sink.proofs.lists.index_of.Goals as goal

pub loop-number-preserved : goal.loop-number-preserved
loop-number-preserved c =
    let lines = c.args.lines.now in
    c.in_ok-add.ensures (map name_of lines) (name_at name_of lines c.loop-number.number c.index-lines-number.result (c.loop-number-test.true, sym c.index-lines-number.is)) c.loop-number.invariant

pub returns : goal.returns
returns c = index_all name_of c.args.lines.now c.loop-number.number c.loop-number.index c.loop-number-test.false c.loop-number.invariant
