use Rattle.reach_rows.proofs.Closed.{own_sound}
use Rattle.reach_rows.proofs.closure.fill.Goals as goal

pub returns-clause-sound : goal.returns-clause-sound
returns-clause-sound c = c.grow.ensures.sound (own_sound c.args.rows.now c.args.width c.args.bits.now c.requires.fits c.set_owns.new.bits c.set_owns.ensures.only)
