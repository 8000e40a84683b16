use Rattle.std.proofs.Common.{arith}
use Rattle.dummy_main.specs.Listing.IsBad.{many}
use Rattle.dummy_main.proofs.list.Listed.take.Goals as goal

pub returns-then-len-eq-MOST_COMPONENTS-clause-refused : goal.returns-then-len-eq-MOST_COMPONENTS-clause-refused
returns-then-len-eq-MOST_COMPONENTS-clause-refused c =
    λ line g. many c.args.component g (let len = c.len.ensures in let full = c.if-len-eq-MOST_COMPONENTS.true in omega (arith, len, full))
