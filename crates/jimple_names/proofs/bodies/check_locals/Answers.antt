use Rattle.std.proofs.Common.{◌<◌, [], length, rules, arith}
use Rattle.std.proofs.lemmas.Result.{err_from_is_err_and}
use Rattle.jimple_names.specs.Faults.{in_turn, declared_fault}
use Rattle.jimple_names.specs.Resolving.{seen}
use Rattle.jimple_names.proofs.Walks.{locals_more, locals_stop}
use Rattle.jimple_names.proofs.bodies.check_locals.Goals as goal

pub returns-in_err-check_local : goal.returns-in_err-check_local
returns-in_err-check_local c =
    let p = err_from_is_err_and c.from_residual.result c.from_residual.ensures.1 in
    let r = c.args.resolver.now in
    let less : c.loop-number.number < length c.args.tokens.now = let t = c.loop-number-test.true in search (arith, rules, t) in
    rw (p.1, p.2) (locals_stop r.bytes.now (seen r.names.locals.now r.names.labels.now r.count) c.args.tokens.now c.loop-number.number less c.requires.names (in_turn (declared_fault r.bytes.now) [] c.args.tokens.now) c.loop-number.invariant _ c.in_err-check_local.field-0.0 c.in_err-check_local.ensures)

pub loop-number-preserved : goal.loop-number-preserved
loop-number-preserved c =
    let r = c.args.resolver.now in
    let less : c.loop-number.number < length c.args.tokens.now = let t = c.loop-number-test.true in search (arith, rules, t) in
    locals_more r.bytes.now (seen r.names.locals.now r.names.labels.now r.count) c.args.tokens.now c.loop-number.number less c.requires.names (in_turn (declared_fault r.bytes.now) [] c.args.tokens.now) c.loop-number.invariant _ c.in_ok-check_local.ensures
