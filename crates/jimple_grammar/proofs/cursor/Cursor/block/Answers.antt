use Rattle.std.proofs.Common.{List, length, ◌-◌, ◌∙◌, ap, refl, sym}
use Rattle.std.proofs.lemmas.Result.{err_from_is_err_and}
use Rattle.jimple_grammar.specs.declared.lexeme.Lexeme.{Lexeme}
use Rattle.jimple_grammar.specs.Reading.{reading}
use Rattle.jimple_grammar.specs.Grammar.{both}
use Rattle.clean_base.specs.Limits.{most_locals}
use Rattle.jimple_grammar.specs.Forms.{bodied, before_decl, ty, decl, room_behind, code_catches, code, catches, block}
use Rattle.jimple_grammar.proofs.Shorten.{shortens}
use Rattle.jimple_grammar.proofs.Groups.{started, underway, failed, ended, end_failed}
use Rattle.jimple_grammar.proofs.cursor.Cursor.block.Goals as goal

pub loop-self-init : goal.loop-self-init
unfolding block
loop-self-init c = rw c.new-decls.ensures.items (started bodied before_decl decl room_behind (both code_catches code catches) most_locals c.args.self.now.left.now)

pub loop-self-smaller : goal.loop-self-smaller
unfolding decl ty
loop-self-smaller c = shortens (decl c.loop-self.room) refl c.loop-self.self.left.now (c.in_ok-next.next, c.decl.new.self.left.now) c.in_ok-next.ensures

pub loop-self-preserved : goal.loop-self-preserved
unfolding decl ty
loop-self-preserved c = rw c.in_ok-push.ensures.items (underway _ _ decl _ (both code_catches code catches) (reading block c.args.self.now.left.now) c.loop-self.decls.items c.loop-self.room _ c.loop-self.self.left.now (c.in_ok-next.next, c.decl.new.self.left.now) c.loop-self.invariant (sym c.loop-self-test.ensures) c.in_ok-next.ensures refl (c.saturating_sub-room.ensures ∙ ap (λ (xs : List Lexeme). c.loop-self.room - length xs) c.as_slice.ensures))

pub returns-in_err-next : goal.returns-in_err-next
returns-in_err-next c =
    let p = err_from_is_err_and c.from_residual.result c.from_residual.ensures.1 in
    rw (p.1, p.2) (failed _ _ decl _ (both code_catches code catches) (reading block c.args.self.now.left.now) c.loop-self.decls.items c.loop-self.room c.loop-self.self.left.now c.in_err-next.field-0.0 c.loop-self.invariant (sym c.loop-self-test.ensures) refl c.in_err-next.ensures)

pub returns-in_err-code : goal.returns-in_err-code
returns-in_err-code c =
    let p = err_from_is_err_and c.from_residual-in_err-code.result c.from_residual-in_err-code.ensures.1 in
    rw (p.1, p.2) (end_failed _ _ decl _ (both code_catches code catches) (reading block c.args.self.now.left.now) c.loop-self.decls.items c.loop-self.room c.loop-self.self.left.now c.in_err-code.field-0.0 c.loop-self.invariant (sym c.loop-self-test.ensures) c.in_err-code.ensures)

pub returns : goal.returns
returns c = rw c.from_vec.ensures (ended _ _ decl _ (both code_catches code catches) (reading block c.args.self.now.left.now) c.loop-self.decls.items c.loop-self.room c.loop-self.self.left.now (c.in_ok-code.code, c.in_ok-code.catches) c.code_catches.new.self.left.now c.loop-self.invariant (sym c.loop-self-test.ensures) c.in_ok-code.ensures)
