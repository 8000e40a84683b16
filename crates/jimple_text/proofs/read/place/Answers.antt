use Rattle.jimple_text.proofs.Left.{place_some}
use Rattle.jimple_text.proofs.read.place.Goals as goal

pub returns-in-Some : goal.returns-in-Some
returns-in-Some c = place_some c.args.bytes.now c.args.tokens.now c.args.left c.saturating_sub.result c.in-Some.token.now _ c.saturating_sub.ensures c.in-Some.ensures.lookup.0 c.in-Some.ensures.lookup.1
