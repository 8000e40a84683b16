use Rattle.leak_report.proofs.Pairs.{brackets_more}
use Rattle.leak_report.proofs.printed.write_brackets.Goals as goal

pub loop-pair-preserved : goal.loop-pair-preserved
loop-pair-preserved c = brackets_more _ _ _ _ c.loop-pair.invariant c.in_ok-extend_from_slice.ensures.items
