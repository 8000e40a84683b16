use Rattle.std.proofs.Common.{refl, arith}
use Rattle.reach_rows.proofs.Words.{none_own}
use Rattle.reach_rows.proofs.closure.set_owns.Goals as goal

pub loop-a-init : goal.loop-a-init
loop-a-init c = record {
  len = refl;
  own = λ a below. absurd (omega (arith, below));
  only = none_own c.args.width c.args.bits.now c.requires.none;
}
