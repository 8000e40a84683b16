use Rattle.std.proofs.Common.{◌+◌, ◌*◌, ◌<◌, length, arith}
use Rattle.reach_rows.proofs.Words.{row_grows, row_gains, row_taken}
use Rattle.reach_rows.proofs.closure.take_in.Goals as goal

pub loop-column-preserved : goal.loop-column-preserved
loop-column-preserved c =
    let w = c.args.width in
    let a = c.args.a in
    let b = c.args.b in
    let old = c.args.bits.now in
    let mid = c.loop-column.bits in
    let new = c.add_word-added.new.bits in
    let j = c.loop-column.column in
    let within : j < w = c.loop-column-test.true in
    let long : a * w + j < length mid = omega (arith, within, c.requires.a, c.loop-column.auto.bits) in
    let says = c.add_word-added.ensures in
    let was = c.loop-column.invariant in
    record {
      grows = row_grows w old mid new a b j c.add_word-added.result c.loop-column.grown within long says.set says.more says.same was.grows;
      gains = row_gains w old mid new a b j c.add_word-added.result c.loop-column.grown within long says.set says.more says.same was.grows was.gains;
      taken = row_taken w old mid new a b j c.add_word-added.result c.loop-column.grown within long says.set says.more says.same was.grows was.taken;
    }
