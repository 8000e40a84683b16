use Rattle.std.proofs.Common.{arith, sym, ◌∙◌}
use Rattle.jimple_lex.proofs.Parts.{one_more}
use Rattle.jimple_lex.proofs.runs.tail_end.Goals as goal

pub loop-to-preserved : goal.loop-to-preserved
loop-to-preserved c = record {
  order = omega arith;
  within = omega arith;
  each = one_more _ _ _ c.loop-to.invariant.each (sym c.goes_on.ensures ∙ c.if-goes_on.true);
}
