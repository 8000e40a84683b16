use Rattle.std.proofs.Common.{refl, sym}
use Rattle.std.proofs.lemmas.Result.{err_from_is_err_and}
use Rattle.jimple_grammar.specs.Grammar.{both}
use Rattle.jimple_grammar.specs.Reading.{reading}
use Rattle.jimple_grammar.specs.Forms.{classed, before_class_modifier, modifier, heading_members, heading, members, class}
use Rattle.jimple_grammar.proofs.Shorten.{shortens}
use Rattle.jimple_grammar.proofs.Loops.{started, onward, ended, end_failed, failed}
use Rattle.jimple_grammar.proofs.cursor.Cursor.class.Goals as goal

pub loop-self-init : goal.loop-self-init
unfolding class
loop-self-init c = rw c.new-modifiers.ensures.items (started (classed) (before_class_modifier) modifier (both heading_members heading members) c.args.self.now.left.now)

pub loop-self-smaller : goal.loop-self-smaller
loop-self-smaller c = shortens modifier refl c.loop-self.self.left.now (c.in_ok-next.next, c.take_modifier.new.self.left.now) c.in_ok-next.ensures

pub loop-self-preserved : goal.loop-self-preserved
loop-self-preserved c = rw c.in_ok-push.ensures.items (onward _ _ modifier (both heading_members heading members) (reading class c.args.self.now.left.now) c.loop-self.modifiers.items c.loop-self.self.left.now (c.in_ok-next.next, c.take_modifier.new.self.left.now) c.loop-self.invariant (sym c.loop-self-test.ensures) c.in_ok-next.ensures refl)

pub returns-in_err-next : goal.returns-in_err-next
returns-in_err-next c =
    let p = err_from_is_err_and c.from_residual.result c.from_residual.ensures.1 in
    rw (p.1, p.2) (failed _ _ modifier (both heading_members heading members) (reading class c.args.self.now.left.now) c.loop-self.modifiers.items c.loop-self.self.left.now c.in_err-next.field-0.0 c.loop-self.invariant (sym c.loop-self-test.ensures) refl c.in_err-next.ensures)

pub returns-in_err-heading : goal.returns-in_err-heading
returns-in_err-heading c =
    let p = err_from_is_err_and c.from_residual-in_err-heading.result c.from_residual-in_err-heading.ensures.1 in
    rw (p.1, p.2) (end_failed _ _ modifier (both heading_members heading members) (reading class c.args.self.now.left.now) c.loop-self.modifiers.items c.loop-self.self.left.now c.in_err-heading.field-0.0 c.loop-self.invariant (sym c.loop-self-test.ensures) c.in_err-heading.ensures)

pub returns : goal.returns
returns c = rw c.from_vec.ensures (ended _ _ modifier (both heading_members heading members) (reading class c.args.self.now.left.now) c.loop-self.modifiers.items c.loop-self.self.left.now (c.in_ok-heading.heading, c.in_ok-heading.members) c.heading_members.new.self.left.now c.loop-self.invariant (sym c.loop-self-test.ensures) c.in_ok-heading.ensures)
