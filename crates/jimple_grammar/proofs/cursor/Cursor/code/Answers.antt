use Rattle.std.proofs.Common.{refl, sym}
use Rattle.std.proofs.lemmas.Result.{err_from_is_err_and}
use Rattle.jimple_grammar.specs.Grammar.{both}
use Rattle.jimple_grammar.specs.Reading.{reading}
use Rattle.jimple_grammar.specs.Forms.{label, stmt, front_items, later_items, code, coded, before_label}
use Rattle.jimple_grammar.proofs.Shrink.{shrinks}
use Rattle.jimple_grammar.proofs.Loops.{started, onward, ended, end_failed, failed}
use Rattle.jimple_grammar.proofs.cursor.Cursor.code.Goals as goal

pub loop-self-init : goal.loop-self-init
unfolding code
loop-self-init c = rw c.new-labels.ensures.items (started (coded) (before_label) label (both front_items stmt later_items) c.args.self.now.left.now)

pub loop-self-smaller : goal.loop-self-smaller
loop-self-smaller c = shrinks label c.loop-self.self.left.now (c.in_ok-next.next, c.label.new.self.left.now) c.in_ok-next.ensures

pub loop-self-preserved : goal.loop-self-preserved
loop-self-preserved c = rw c.in_ok-push.ensures.items (onward _ _ label (both front_items stmt later_items) (reading code c.args.self.now.left.now) c.loop-self.labels.items c.loop-self.self.left.now (c.in_ok-next.next, c.label.new.self.left.now) c.loop-self.invariant (sym c.loop-self-test.ensures) c.in_ok-next.ensures refl)

pub returns-in_err-next : goal.returns-in_err-next
returns-in_err-next c =
    let p = err_from_is_err_and c.from_residual.result c.from_residual.ensures.1 in
    rw (p.1, p.2) (failed _ _ label (both front_items stmt later_items) (reading code c.args.self.now.left.now) c.loop-self.labels.items c.loop-self.self.left.now c.in_err-next.field-0.0 c.loop-self.invariant (sym c.loop-self-test.ensures) refl c.in_err-next.ensures)

pub returns-in_err-front : goal.returns-in_err-front
returns-in_err-front c =
    let p = err_from_is_err_and c.from_residual-in_err-front.result c.from_residual-in_err-front.ensures.1 in
    rw (p.1, p.2) (end_failed _ _ label (both front_items stmt later_items) (reading code c.args.self.now.left.now) c.loop-self.labels.items c.loop-self.self.left.now c.in_err-front.field-0.0 c.loop-self.invariant (sym c.loop-self-test.ensures) c.in_err-front.ensures)

pub returns : goal.returns
returns c = rw c.from_vec.ensures (ended _ _ label (both front_items stmt later_items) (reading code c.args.self.now.left.now) c.loop-self.labels.items c.loop-self.self.left.now (c.in_ok-front.front, c.in_ok-front.rest) c.front_items.new.self.left.now c.loop-self.invariant (sym c.loop-self-test.ensures) c.in_ok-front.ensures)
