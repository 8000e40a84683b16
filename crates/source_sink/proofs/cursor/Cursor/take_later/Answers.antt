use Rattle.std.proofs.Common.{◌∷◌, [], ◌++◌, sym, append_assoc, length}
use Rattle.source_sink.specs.Reading.{read_later}
use Rattle.source_sink.proofs.Loops.{less, onward, closed}
use Rattle.source_sink.proofs.cursor.Cursor.take_later.Goals as goal

pub later-smaller : goal.later-smaller
later-smaller c = less c.later.self.left.now c.in_ok-take_later_type.field-0 c.take_later_type.new.self.left.now c.in_ok-take_later_type.ensures

pub later-preserved : goal.later-preserved
later-preserved c = record {
  done = c.later.invariant.done ++ c.in_ok-take_later_type.field-0 ∷ [];
  types = rw (c.in_ok-push.ensures.items, c.later.invariant.types) (append_assoc _ c.later.invariant.done _);
  onward = onward (read_later (length c.args.self.now.left.now) c.args.self.now.left.now) c.later.invariant.done c.later.self.left.now c.in_ok-take_later_type.field-0 c.take_later_type.new.self.left.now c.later.invariant.onward (sym c.later-test.ensures) c.in_ok-take_later_type.ensures;
}

pub returns : goal.returns
returns c = (c.later.invariant.done, closed (read_later (length c.args.self.now.left.now) c.args.self.now.left.now) c.later.invariant.done c.later.self.left.now c.later.invariant.onward (sym c.later-test.ensures), c.later.invariant.types)
