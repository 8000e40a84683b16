use Rattle.std.proofs.Common.{arith}
use Rattle.taint_problem.proofs.Calling.{leads_outside}
use Rattle.taint_problem.proofs.places.leads.Goals as goal

pub returns-else-m-count : goal.returns-else-m-count
returns-else-m-count c =
    let led = leads_outside c.args.program.now.code c.requires c.args.m c.args.n (λ from to. omega (arith, from, to, c.else-m-count.either)) in
    let same = c.is_same.ensures in
    ((λ is. led.1 (same.0 is)), (λ leads. same.1 (led.0 leads)))
