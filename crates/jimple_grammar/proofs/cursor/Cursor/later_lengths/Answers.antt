use Rattle.std.proofs.Common.{[], ◌∷◌, ◌++◌, refl, sym, append_assoc, append-nil}
use Rattle.std.proofs.lemmas.Result.{err_from_is_err_and}
use Rattle.jimple_grammar.specs.declared.raw.RawImm.{RawImm}
use Rattle.jimple_grammar.specs.Reading.{reading}
use Rattle.jimple_grammar.specs.Forms.{element, brackets, before_length, lengths_and_bare, later_lengths}
use Rattle.jimple_grammar.proofs.Shrink.{shrinks}
use Rattle.jimple_grammar.proofs.Loops.{started, onward, failed, ended_with}
use Rattle.jimple_grammar.proofs.cursor.Cursor.later_lengths.Goals as goal

pub loop-self-init : goal.loop-self-init
unfolding later_lengths
loop-self-init c = record {
  pieces = [];
  are = sym (append-nil c.args.lengths.now.items);
  onward = started lengths_and_bare before_length element brackets c.args.self.now.left.now;
}

pub loop-self-smaller : goal.loop-self-smaller
unfolding element
loop-self-smaller c = shrinks element c.loop-self.self.left.now (c.in_ok-next.next, c.element.new.self.left.now) c.in_ok-next.ensures

pub loop-self-preserved : goal.loop-self-preserved
unfolding element
loop-self-preserved c =
    let x : RawImm = c.in_ok-next.next in
    record {
      pieces = c.loop-self.invariant.pieces ++ x ∷ [];
      are = let e = c.loop-self.invariant.are in rw (c.in_ok-push.ensures.items, e) (append_assoc c.args.lengths.now.items c.loop-self.invariant.pieces (x ∷ []));
      onward = onward _ _ element brackets (reading later_lengths c.args.self.now.left.now) c.loop-self.invariant.pieces c.loop-self.self.left.now (x, c.element.new.self.left.now) c.loop-self.invariant.onward (sym c.loop-self-test.ensures) c.in_ok-next.ensures refl;
    }

pub returns-in_err-next : goal.returns-in_err-next
unfolding element
returns-in_err-next c =
    let p = err_from_is_err_and c.from_residual.result c.from_residual.ensures.1 in
    rw (p.1, p.2) (failed _ _ element brackets (reading later_lengths c.args.self.now.left.now) c.loop-self.invariant.pieces c.loop-self.self.left.now c.in_err-next.field-0.0 c.loop-self.invariant.onward (sym c.loop-self-test.ensures) refl c.in_err-next.ensures)

pub returns : goal.returns
returns c = ended_with before_length element brackets (reading later_lengths c.args.self.now.left.now) c.loop-self.invariant.pieces c.args.lengths.now.items c.loop-self.lengths.items c.loop-self.self.left.now c.brackets.new.self.left.now c.brackets.result c.loop-self.invariant.onward (sym c.loop-self-test.ensures) c.loop-self.invariant.are c.brackets.ensures.gives
