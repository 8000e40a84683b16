use Rattle.std.proofs.Common.{rules}
use Rattle.solver_core.proofs.Flown.{in_hand_none}
use Rattle.solver_core.proofs.pending.hand_back.Goals as goal

pub returns-in-Some-clause-less : goal.returns-in-Some-clause-less
returns-in-Some-clause-less g c = in_hand_none c.args.flights.now.items c.args.w c.in-Some.work (c.requires, search rules)
