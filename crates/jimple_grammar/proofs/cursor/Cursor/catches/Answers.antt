use Rattle.std.proofs.Common.{[], ◌∷◌, refl, sym}
use Rattle.std.proofs.lemmas.Result.{err_from_is_err_and}
use Rattle.jimple_words.specs.declared.kind.Kind.TheVariants as kinds
use Rattle.jimple_grammar.specs.Reading.{reading}
use Rattle.jimple_grammar.specs.Grammar.{ends}
use Rattle.jimple_grammar.specs.Forms.{catch, catches}
use Rattle.jimple_grammar.proofs.Shrink.{shrinks}
use Rattle.jimple_grammar.proofs.Loops.{started, onward, ended, failed}
use Rattle.jimple_grammar.proofs.cursor.Cursor.catches.Goals as goal

pub loop-self-init : goal.loop-self-init
unfolding catches
loop-self-init c = rw c.new-catches.ensures.items (started (λ xs end. xs) (((kinds.Catch ∷ []) ∷ []) ∷ []) catch ends c.args.self.now.left.now)

pub loop-self-smaller : goal.loop-self-smaller
unfolding catch
loop-self-smaller c = shrinks catch c.loop-self.self.left.now (c.in_ok-next.next, c.catch.new.self.left.now) c.in_ok-next.ensures

pub loop-self-preserved : goal.loop-self-preserved
unfolding catch
loop-self-preserved c = rw c.in_ok-push.ensures.items (onward _ _ catch ends (reading catches c.args.self.now.left.now) c.loop-self.catches.items c.loop-self.self.left.now (c.in_ok-next.next, c.catch.new.self.left.now) c.loop-self.invariant (sym c.loop-self-test.ensures) c.in_ok-next.ensures refl)

pub returns-in_err-next : goal.returns-in_err-next
unfolding catch
returns-in_err-next c =
    let p = err_from_is_err_and c.from_residual.result c.from_residual.ensures.1 in
    rw (p.1, p.2) (failed _ _ catch ends (reading catches c.args.self.now.left.now) c.loop-self.catches.items c.loop-self.self.left.now c.in_err-next.field-0.0 c.loop-self.invariant (sym c.loop-self-test.ensures) refl c.in_err-next.ensures)

pub returns : goal.returns
returns c = ended _ _ catch ends (reading catches c.args.self.now.left.now) c.loop-self.catches.items c.loop-self.self.left.now tt c.loop-self.self.left.now c.loop-self.invariant (sym c.loop-self-test.ensures) refl
