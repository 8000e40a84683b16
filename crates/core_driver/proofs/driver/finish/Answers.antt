use Rattle.std.proofs.Common.{arith}
use Rattle.core_driver.proofs.driver.finish.Goals as goal

pub returns-in-Ok-clause-limit : goal.returns-in-Ok-clause-limit
returns-in-Ok-clause-limit g c = omega (arith, c.in-Ok.ensures.limit, c.in_ok-work_off.ensures.limit, c.give_all_back.ensures.ready.limit)
