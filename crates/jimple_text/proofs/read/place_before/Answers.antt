use Rattle.jimple_text.proofs.Left.{before_some}
use Rattle.jimple_text.proofs.read.place_before.Goals as goal

pub returns-in-Some-get : goal.returns-in-Some-get
returns-in-Some-get c bytes = before_some bytes c.args.tokens.now c.args.left c.saturating_sub.result c.in-Some.number c.in-Some-get.token.now _ c.saturating_sub.ensures c.in-Some.ensures.0 c.in-Some.ensures.1 c.in-Some-get.ensures.lookup.1
