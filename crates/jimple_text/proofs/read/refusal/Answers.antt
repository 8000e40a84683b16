use Rattle.std.proofs.Common.{suc, subst}
use Rattle.jimple_grammar.specs.declared.cursor.Reason.{Reason}
use Rattle.jimple_grammar.specs.Gives.{reason_number}
use Rattle.jimple_text.specs.Settled.{Stopped}
use Rattle.jimple_text.proofs.Told.{too_many_refused, word_refused, before_refused}
use Rattle.jimple_text.proofs.read.refusal.Goals as goal

pub returns-in-Unsupported : goal.returns-in-Unsupported
returns-in-Unsupported c =
    let stopped = subst (λ (r : Reason). Stopped c.args.bytes.now c.args.tokens.now (suc (reason_number r)) c.args.left) c.in-Unsupported.is c.requires.3 in
    word_refused c.args.file c.args.bytes.now c.args.tokens.now c.requires.2 c.args.left c.place.result c.form.result stopped c.place.ensures c.form.ensures

pub returns-in-TooMany : goal.returns-in-TooMany
returns-in-TooMany c =
    let stopped = subst (λ (r : Reason). Stopped c.args.bytes.now c.args.tokens.now (suc (reason_number r)) c.args.left) c.in-TooMany.is c.requires.3 in
    too_many_refused c.args.file c.args.bytes.now c.args.tokens.now c.requires.2 c.args.left c.place-in-TooMany.result stopped c.place-in-TooMany.ensures

pub returns-in-WordBefore : goal.returns-in-WordBefore
returns-in-WordBefore c =
    let stopped = subst (λ (r : Reason). Stopped c.args.bytes.now c.args.tokens.now (suc (reason_number r)) c.args.left) c.in-WordBefore.is c.requires.3 in
    before_refused c.args.file c.args.bytes.now c.args.tokens.now c.requires.2 c.args.left c.place_before.result stopped (c.place_before.ensures c.args.bytes.now)
