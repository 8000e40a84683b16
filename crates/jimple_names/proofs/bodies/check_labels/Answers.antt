use Rattle.std.proofs.Common.{◌<◌, ◌≤◌, [], length, rules, arith, sym, subst, ◌∙◌}
use Rattle.std.proofs.lemmas.Result.{err_from_is_err_and}
use Rattle.jimple_names.specs.Faults.{in_turn}
use Rattle.jimple_names.specs.Resolving.{seen}
use Rattle.jimple_names.specs.Walking.{Stopped}
use Rattle.jimple_names.proofs.Turns.{turn_end}
use Rattle.jimple_names.proofs.Walks.{label_fault, labels_turn, labels_more, labels_stop}
use Rattle.jimple_names.proofs.bodies.check_labels.Goals as goal

pub returns-in_err-check_label : goal.returns-in_err-check_label
returns-in_err-check_label c =
    let p = err_from_is_err_and c.from_residual.result c.from_residual.ensures.1 in
    let r = c.args.resolver.now in
    let is = c.as_slice-tokens.ensures in
    let less : c.loop-number.number < length c.args.code.now.labels = let t = c.loop-number-test.true in search (arith, rules, t, is) in
    let stop = labels_stop r.bytes.now (seen r.names.locals.now r.names.labels.now r.count) c.args.code.now c.requires.labels c.loop-number.number less (in_turn (label_fault r.bytes.now (seen r.names.locals.now r.names.labels.now r.count)) [] c.args.code.now.labels) c.loop-number.invariant c.as_slice-tokens.result.now is _ c.in_err-check_label.field-0.0 c.in_err-check_label.ensures in
    rw (p.1, p.2) (subst (Stopped c.in_err-check_label.field-0.0) (sym (labels_turn r.bytes.now (seen r.names.locals.now r.names.labels.now r.count) c.args.code.now.labels)) stop)

pub loop-number-preserved : goal.loop-number-preserved
loop-number-preserved c =
    let r = c.args.resolver.now in
    let is = c.as_slice-tokens.ensures in
    let less : c.loop-number.number < length c.args.code.now.labels = let t = c.loop-number-test.true in search (arith, rules, t, is) in
    labels_more r.bytes.now (seen r.names.locals.now r.names.labels.now r.count) c.args.code.now c.requires.labels c.loop-number.number less (in_turn (label_fault r.bytes.now (seen r.names.locals.now r.names.labels.now r.count)) [] c.args.code.now.labels) c.loop-number.invariant c.as_slice-tokens.result.now is _ c.in_ok-check_label.ensures

pub returns : goal.returns
returns c =
    let r = c.args.resolver.now in
    let is = c.as_slice-tokens.ensures in
    let past : length c.args.code.now.labels ≤ c.loop-number.number = let t = c.loop-number-test.false in search (arith, rules, t, is) in
    labels_turn r.bytes.now (seen r.names.locals.now r.names.labels.now r.count) c.args.code.now.labels
    ∙ turn_end (label_fault r.bytes.now (seen r.names.locals.now r.names.labels.now r.count)) c.args.code.now.labels [] c.loop-number.number (in_turn (label_fault r.bytes.now (seen r.names.locals.now r.names.labels.now r.count)) [] c.args.code.now.labels) past c.loop-number.invariant
