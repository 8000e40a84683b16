use Rattle.std.proofs.Common.{refl, sym}
use Rattle.std.proofs.lemmas.Result.{err_from_is_err_and}
use Rattle.jimple_grammar.specs.Reading.{reading}
use Rattle.jimple_grammar.specs.Grammar.{ends}
use Rattle.jimple_grammar.specs.Forms.{case, cases}
use Rattle.jimple_grammar.proofs.Shrink.{shrinks}
use Rattle.jimple_grammar.proofs.Loops.{onward, failed}
use Rattle.jimple_grammar.proofs.cursor.Cursor.cases.Goals as goal

pub loop-self-smaller : goal.loop-self-smaller
unfolding case
loop-self-smaller c = shrinks case c.loop-self.self.left.now (c.in_ok-next.next, c.case.new.self.left.now) c.in_ok-next.ensures

pub loop-self-preserved : goal.loop-self-preserved
unfolding case
loop-self-preserved c = rw c.in_ok-push.ensures.items (onward _ _ case ends (reading cases c.args.self.now.left.now) c.loop-self.cases.items c.loop-self.self.left.now (c.in_ok-next.next, c.case.new.self.left.now) c.loop-self.invariant (sym c.loop-self-test.ensures) c.in_ok-next.ensures refl)

pub returns-in_err-next : goal.returns-in_err-next
unfolding case
returns-in_err-next c =
    let p = err_from_is_err_and c.from_residual.result c.from_residual.ensures.1 in
    rw (p.1, p.2) (failed _ _ case ends (reading cases c.args.self.now.left.now) c.loop-self.cases.items c.loop-self.self.left.now c.in_err-next.field-0.0 c.loop-self.invariant (sym c.loop-self-test.ensures) refl c.in_err-next.ensures)
