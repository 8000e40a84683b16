use Rattle.std.proofs.Common.{refl, sym}
use Rattle.std.proofs.lemmas.Result.{err_from_is_err_and}
use Rattle.jimple_grammar.specs.Reading.{reading}
use Rattle.jimple_grammar.specs.Grammar.{ends}
use Rattle.jimple_grammar.specs.Forms.{item, later_items, before_item}
use Rattle.jimple_grammar.proofs.Shorten.{shortens, item_some}
use Rattle.jimple_grammar.proofs.Loops.{started, onward, ended, failed}
use Rattle.jimple_grammar.proofs.cursor.Cursor.later_items.Goals as goal

pub loop-alloc-init : goal.loop-alloc-init
unfolding later_items
loop-alloc-init c = rw c.new-items.ensures.items (started (λ xs end. xs) (before_item) item ends c.args.self.now.left.now)

pub loop-alloc-smaller : goal.loop-alloc-smaller
unfolding item
loop-alloc-smaller c = shortens item item_some c.loop-alloc.self.left.now (c.in_ok-next.next, c.item.new.self.left.now) c.in_ok-next.ensures

pub loop-alloc-preserved : goal.loop-alloc-preserved
unfolding item
loop-alloc-preserved c = rw c.in_ok-push.ensures.items (onward _ _ item ends (reading later_items c.args.self.now.left.now) c.loop-alloc.items.items c.loop-alloc.self.left.now (c.in_ok-next.next, c.item.new.self.left.now) c.loop-alloc.invariant (sym c.loop-alloc-test.ensures) c.in_ok-next.ensures item_some)

pub returns-in_err-next : goal.returns-in_err-next
unfolding item
returns-in_err-next c =
    let p = err_from_is_err_and c.from_residual.result c.from_residual.ensures.1 in
    rw (p.1, p.2) (failed _ _ item ends (reading later_items c.args.self.now.left.now) c.loop-alloc.items.items c.loop-alloc.self.left.now c.in_err-next.field-0.0 c.loop-alloc.invariant (sym c.loop-alloc-test.ensures) refl c.in_err-next.ensures)

pub returns : goal.returns
returns c = ended _ _ item ends (reading later_items c.args.self.now.left.now) c.loop-alloc.items.items c.loop-alloc.self.left.now tt c.loop-alloc.self.left.now c.loop-alloc.invariant (sym c.loop-alloc-test.ensures) refl
