use Rattle.std.proofs.Common.{arith, [], ◌∷◌, ◌++◌, refl, sym}
use Rattle.std.proofs.lemmas.Result.{err_from_is_err_and}
use Rattle.std.proofs.lemmas.List.{length-append}
use Rattle.jimple_grammar.specs.declared.lexeme.Lexeme.{Lexeme}
use Rattle.jimple_grammar.specs.Reading.{reading}
use Rattle.jimple_grammar.specs.Grammar.{ends}
use Rattle.jimple_grammar.specs.Forms.{bracket_pair, brackets}
use Rattle.jimple_grammar.proofs.Shrink.{shrinks}
use Rattle.jimple_grammar.proofs.Loops.{onward, failed, finished}
use Rattle.jimple_grammar.proofs.cursor.Cursor.brackets.Goals as goal

pub returns-in_err-bracket_pair-clause-gives : goal.returns-in_err-bracket_pair-clause-gives
returns-in_err-bracket_pair-clause-gives c =
    let p = err_from_is_err_and c.from_residual.result c.from_residual.ensures.1 in
    rw (p.1, p.2) (failed _ _ bracket_pair ends (reading brackets c.args.self.now.left.now) c.loop-self.invariant.pieces c.loop-self.self.left.now c.in_err-bracket_pair.field-0.0 c.loop-self.invariant.onward (sym c.loop-self-test.ensures) refl c.in_err-bracket_pair.ensures)

pub loop-self-smaller : goal.loop-self-smaller
loop-self-smaller c = shrinks bracket_pair c.loop-self.self.left.now (c.in_ok-bracket_pair.field-0, c.bracket_pair.new.self.left.now) c.in_ok-bracket_pair.ensures

pub loop-self-preserved : goal.loop-self-preserved
loop-self-preserved c =
    let x : Lexeme = c.in_ok-bracket_pair.field-0 in
    let less = shrinks bracket_pair c.loop-self.self.left.now (x, c.bracket_pair.new.self.left.now) c.in_ok-bracket_pair.ensures in
    record {
      pieces = c.loop-self.invariant.pieces ++ x ∷ [];
      count = let n = length-append c.loop-self.invariant.pieces (x ∷ []) in let m = c.loop-self.invariant.count in omega (arith, n, m);
      bound = let b = c.loop-self.invariant.bound in omega (arith, less, b);
      onward = onward _ _ bracket_pair ends (reading brackets c.args.self.now.left.now) c.loop-self.invariant.pieces c.loop-self.self.left.now (x, c.bracket_pair.new.self.left.now) c.loop-self.invariant.onward (sym c.loop-self-test.ensures) c.in_ok-bracket_pair.ensures refl;
    }

pub returns-clause-gives : goal.returns-clause-gives
returns-clause-gives c = rw c.loop-self.invariant.count (finished _ _ bracket_pair ends (reading brackets c.args.self.now.left.now) c.loop-self.invariant.pieces c.loop-self.self.left.now c.loop-self.invariant.onward (sym c.loop-self-test.ensures))
