use Rattle.solver_core.proofs.Flown.{in_hand_some}
use Rattle.solver_core.proofs.pending.hand_out.Goals as goal

pub returns-clause-out : goal.returns-clause-out
returns-clause-out g c = in_hand_some c.args.flights.now.items c.args.w c.args.work c.requires
