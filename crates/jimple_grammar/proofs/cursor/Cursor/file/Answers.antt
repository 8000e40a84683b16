use Rattle.std.proofs.Common.{refl, sym}
use Rattle.std.proofs.lemmas.Result.{err_from_is_err_and}
use Rattle.jimple_grammar.specs.Grammar.{ends}
use Rattle.jimple_grammar.specs.Reading.{reading}
use Rattle.jimple_grammar.specs.Forms.{before_class, class, file}
use Rattle.jimple_grammar.proofs.Shorten.{shortens, class_some}
use Rattle.jimple_grammar.proofs.Loops.{started, onward, ended, failed}
use Rattle.jimple_grammar.proofs.cursor.Cursor.file.Goals as goal

pub loop-alloc-init : goal.loop-alloc-init
unfolding file
loop-alloc-init c = rw c.new-classes.ensures.items (started (λ xs end. xs) (before_class) class ends c.args.self.now.left.now)

pub loop-alloc-smaller : goal.loop-alloc-smaller
loop-alloc-smaller c = shortens class class_some c.loop-alloc.self.left.now (c.in_ok-next.next, c.class.new.self.left.now) c.in_ok-next.ensures

pub loop-alloc-preserved : goal.loop-alloc-preserved
loop-alloc-preserved c = rw c.in_ok-push.ensures.items (onward _ _ class ends (reading file c.args.self.now.left.now) c.loop-alloc.classes.items c.loop-alloc.self.left.now (c.in_ok-next.next, c.class.new.self.left.now) c.loop-alloc.invariant (sym c.loop-alloc-test.ensures) c.in_ok-next.ensures class_some)

pub returns-in_err-next : goal.returns-in_err-next
returns-in_err-next c =
    let p = err_from_is_err_and c.from_residual.result c.from_residual.ensures.1 in
    rw (p.1, p.2) (failed _ _ class ends (reading file c.args.self.now.left.now) c.loop-alloc.classes.items c.loop-alloc.self.left.now c.in_err-next.field-0.0 c.loop-alloc.invariant (sym c.loop-alloc-test.ensures) refl c.in_err-next.ensures)

pub returns : goal.returns
returns c = ended _ _ class ends (reading file c.args.self.now.left.now) c.loop-alloc.classes.items c.loop-alloc.self.left.now tt c.loop-alloc.self.left.now c.loop-alloc.invariant (sym c.loop-alloc-test.ensures) refl
