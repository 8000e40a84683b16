use Rattle.std.proofs.Common.{[], ◌∷◌, ◌++◌, refl, sym}
use Rattle.std.proofs.lemmas.Result.{err_from_is_err_and}
use Rattle.jimple_grammar.specs.declared.raw.RawType.{RawType}
use Rattle.jimple_words.specs.declared.kind.Kind.TheVariants as kinds
use Rattle.jimple_grammar.specs.Reading.{reading}
use Rattle.jimple_grammar.specs.Grammar.{ends, ◌*>◌}
use Rattle.jimple_grammar.specs.Forms.{sign, ty, several_types, others}
use Rattle.jimple_grammar.proofs.Shrink.{shrinks}
use Rattle.jimple_grammar.proofs.Loops.{onward, failed, both_fails, both_ended}
use Rattle.jimple_grammar.proofs.cursor.Cursor.several_types.Goals as goal

pub loop-self-smaller : goal.loop-self-smaller
loop-self-smaller c = shrinks (sign kinds.Comma *> ty) c.loop-self.self.left.now (c.in_ok-next.next, c.next_type.new.self.left.now) c.in_ok-next.ensures

pub loop-self-preserved : goal.loop-self-preserved
loop-self-preserved c =
    let x : RawType = c.in_ok-next.next in
    record {
      front = c.loop-self.invariant.front;
      pieces = c.loop-self.invariant.pieces ++ x ∷ [];
      are = let e = c.loop-self.invariant.are in rw (c.in_ok-push-2.ensures.items, e) refl;
      first = c.loop-self.invariant.first;
      onward = onward _ _ (sign kinds.Comma *> ty) ends (reading (others ty) c.ty.new.self.left.now) c.loop-self.invariant.pieces c.loop-self.self.left.now (x, c.next_type.new.self.left.now) c.loop-self.invariant.onward (sym c.loop-self-test.ensures) c.in_ok-next.ensures refl;
    }

pub returns-in_err-next : goal.returns-in_err-next
unfolding several_types
returns-in_err-next c =
    let p = err_from_is_err_and c.from_residual-in_err-next.result c.from_residual-in_err-next.ensures.1 in
    rw (p.1, p.2) (both_fails (λ x xs. x ∷ xs) ty (others ty) c.args.self.now.left.now c.ty.new.self.left.now c.loop-self.invariant.front c.in_err-next.field-0.0 c.loop-self.invariant.first
    (failed _ _ (sign kinds.Comma *> ty) ends (reading (others ty) c.ty.new.self.left.now) c.loop-self.invariant.pieces c.loop-self.self.left.now c.in_err-next.field-0.0 c.loop-self.invariant.onward (sym c.loop-self-test.ensures) refl c.in_err-next.ensures))

pub returns : goal.returns
unfolding several_types
returns c = rw c.loop-self.invariant.are (both_ended ty (sign kinds.Comma *> ty) _ c.args.self.now.left.now c.ty.new.self.left.now c.loop-self.self.left.now c.loop-self.invariant.front c.loop-self.invariant.pieces c.loop-self.invariant.first c.loop-self.invariant.onward (sym c.loop-self-test.ensures))
