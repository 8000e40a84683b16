use Rattle.std.proofs.Common.{◌≡◌, ◌+◌, length, arith, ap, ◌∙◌}
use Rattle.std.proofs.lemmas.List.{length_push}
use Rattle.entry_tables.proofs.Listed.{blank_more, room_more}
use Rattle.entry_tables.proofs.rows.EntryRows.prepare.Goals as goal

pub loop-preserved : goal.loop-preserved
loop-preserved g c =
    let is = c.in_ok-push.ensures.lists in
    let one_more : length c.push.new.self.lists ≡ length c.loop.self.lists + 1 = ap length is ∙ length_push c.loop.self.lists _ in
    record {
      lists = blank_more c.args.self.now.lists c.loop.self.lists c.push.new.self.lists c.loop.invariant.longer c.loop.invariant.lists is;
      longer = omega arith;
      counted = omega arith;
      few = omega arith;
      even = c.push.ensures.even;
      kept = λ k. omega (arith, c.loop.invariant.kept k, c.push.ensures.kept k);
      room = room_more c.loop.self.rooms c.push.new.self.rooms _ (length c.loop.self.lists) _ c.args.room c.push.ensures.kept one_more c.in_ok-push.ensures.room c.loop.invariant.room;
    }
