use Rattle.std.proofs.Common.{refl, sym}
use Rattle.std.proofs.lemmas.Result.{err_from_is_err_and}
use Rattle.jimple_words.specs.declared.kind.Kind.TheVariants as kinds
use Rattle.jimple_grammar.specs.Grammar.{plain}
use Rattle.jimple_grammar.specs.Reading.{reading}
use Rattle.jimple_grammar.specs.Forms.{sign, before_member, member}
use Rattle.jimple_grammar.proofs.Shorten.{shortens, member_some}
use Rattle.jimple_grammar.proofs.Loops.{started, onward, ended, end_failed, failed}
use Rattle.jimple_grammar.proofs.cursor.Cursor.later_members.Goals as goal

pub loop-alloc-init : goal.loop-alloc-init
loop-alloc-init c = rw c.new-members.ensures.items (started (λ xs end. xs) (before_member) member (sign kinds.CloseBrace) c.args.self.now.left.now)

pub loop-alloc-smaller : goal.loop-alloc-smaller
loop-alloc-smaller c = shortens member member_some c.loop-alloc.self.left.now (c.in_ok-next.next, c.member.new.self.left.now) c.in_ok-next.ensures

pub loop-alloc-preserved : goal.loop-alloc-preserved
loop-alloc-preserved c = rw c.in_ok-push.ensures.items (onward _ _ member (sign kinds.CloseBrace) (reading (plain (λ xs end. xs) before_member member (sign kinds.CloseBrace)) c.args.self.now.left.now) c.loop-alloc.members.items c.loop-alloc.self.left.now (c.in_ok-next.next, c.member.new.self.left.now) c.loop-alloc.invariant (sym c.loop-alloc-test.ensures) c.in_ok-next.ensures member_some)

pub returns-in_err-next : goal.returns-in_err-next
returns-in_err-next c =
    let p = err_from_is_err_and c.from_residual.result c.from_residual.ensures.1 in
    rw (p.1, p.2) (failed _ _ member (sign kinds.CloseBrace) (reading (plain (λ xs end. xs) before_member member (sign kinds.CloseBrace)) c.args.self.now.left.now) c.loop-alloc.members.items c.loop-alloc.self.left.now c.in_err-next.field-0.0 c.loop-alloc.invariant (sym c.loop-alloc-test.ensures) refl c.in_err-next.ensures)

pub returns-in_err-take : goal.returns-in_err-take
returns-in_err-take c =
    let p = err_from_is_err_and c.from_residual-in_err-take.result c.from_residual-in_err-take.ensures.1 in
    rw (p.1, p.2) (end_failed _ _ member (sign kinds.CloseBrace) (reading (plain (λ xs end. xs) before_member member (sign kinds.CloseBrace)) c.args.self.now.left.now) c.loop-alloc.members.items c.loop-alloc.self.left.now c.in_err-take.field-0.0 c.loop-alloc.invariant (sym c.loop-alloc-test.ensures) c.in_err-take.ensures)

pub returns : goal.returns
returns c = ended _ _ member (sign kinds.CloseBrace) (reading (plain (λ xs end. xs) before_member member (sign kinds.CloseBrace)) c.args.self.now.left.now) c.loop-alloc.members.items c.loop-alloc.self.left.now c.in_ok-take.field-0 c.take.new.self.left.now c.loop-alloc.invariant (sym c.loop-alloc-test.ensures) c.in_ok-take.ensures
