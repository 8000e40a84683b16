use Rattle.std.proofs.Common.{◌%◌, ◌+◌, ◌*◌, ◌/◌, ℕ, nat_eq, get_or, ap}
use Rattle.std.proofs.lemmas.Nat.Bits.{shr_and_one}
use Rattle.reach_rows.specs.Bits.{has_bit}
use Rattle.reach_rows.proofs.closure.bit.Goals as goal

pub returns : goal.returns
unfolding has_bit
returns c = ap (λ (n : ℕ). nat_eq n 1) (shr_and_one (get_or c.args.bits.now (c.args.a * c.args.width + c.args.b / 64) 0) (c.args.b % 64))
