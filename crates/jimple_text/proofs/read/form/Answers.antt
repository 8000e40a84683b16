use Rattle.jimple_text.proofs.Left.{form_some}
use Rattle.jimple_text.proofs.read.form.Goals as goal

pub returns-in-Some : goal.returns-in-Some
returns-in-Some c front rest parts count =
    rw (c.form_of.ensures, c.kind_of.ensures) (form_some c.args.bytes.now c.args.tokens.now c.args.left c.saturating_sub.result c.in-Some.token.now _ c.saturating_sub.ensures c.in-Some.ensures.lookup.0 c.in-Some.ensures.lookup.1 front rest parts count)
