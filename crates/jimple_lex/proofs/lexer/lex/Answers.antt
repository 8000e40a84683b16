use Rattle.std.proofs.Common.{◌<◌, sym, ◌∙◌, subst, arith, length}
use Rattle.jimple_lex.specs.Ends.{Ends}
use Rattle.jimple_lex.specs.Front.{FormOf}
use Rattle.jimple_lex.proofs.Reading.{finished, only_these, faultless, gap_on, token_on, faulted}
use Rattle.jimple_lex.proofs.Spans.{in_order, spans}
use Rattle.jimple_lex.proofs.lexer.lex.Goals as goal

pub returns-then-to-at-clause-err : goal.returns-then-to-at-clause-err
returns-then-to-at-clause-err c = faulted c.args.bytes.now c.pieces.at c.pieces.out.items c.pieces.invariant c.pieces-test.true c.front_at-begins.result c.front_at-begins.ensures
    (subst (Ends (FormOf c.front_at-begins.result) c.args.bytes.now c.pieces.at) c.if-to-at.true c.piece_end-to.ensures) c.args.file c.fault_at.result c.fault_at.ensures

pub pieces-preserved-in-Ok : goal.pieces-preserved-in-Ok
pieces-preserved-in-Ok c =
    let order : c.pieces.at < c.piece_end-to.result = omega (arith, c.if-to-at.false, c.piece_end-to.ensures.order) in
    rw c.in-Ok.ensures.items (token_on c.args.bytes.now c.pieces.at c.piece_end-to.result c.pieces.out.items c.pieces.invariant order c.piece_end-to.ensures.within c.front_at-begins.result (c.piece_end-to.ensures.some order) c.in-Some.kind (sym c.in-Some.ensures))

pub pieces-preserved : goal.pieces-preserved
pieces-preserved c =
    let order : c.pieces.at < c.piece_end-to.result = omega (arith, c.if-to-at.false, c.piece_end-to.ensures.order) in
    gap_on c.args.bytes.now c.pieces.at c.piece_end-to.result c.pieces.out.items c.pieces.invariant order c.piece_end-to.ensures.within c.front_at-begins.result (c.piece_end-to.ensures.some order) (sym c.kind_of.ensures ∙ c.in_default.is)

pub returns-clause-ok : goal.returns-clause-ok
returns-clause-ok c = finished c.args.bytes.now c.pieces.at c.pieces.out.items c.pieces.invariant c.pieces-test.false

pub returns-clause-only : goal.returns-clause-only
returns-clause-only c = only_these c.args.bytes.now c.pieces.at c.pieces.out.items c.pieces.invariant c.pieces-test.false

pub returns-clause-spans : goal.returns-clause-spans
returns-clause-spans c = spans (length c.args.bytes.now) (omega arith) (finished c.args.bytes.now c.pieces.at c.pieces.out.items c.pieces.invariant c.pieces-test.false)

pub returns-clause-order : goal.returns-clause-order
returns-clause-order c = in_order (finished c.args.bytes.now c.pieces.at c.pieces.out.items c.pieces.invariant c.pieces-test.false)

pub returns-clause-faultless : goal.returns-clause-faultless
returns-clause-faultless c = faultless c.args.bytes.now c.pieces.at c.pieces.out.items c.pieces.invariant c.pieces-test.false
