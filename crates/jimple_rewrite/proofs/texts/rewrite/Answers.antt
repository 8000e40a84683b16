use Rattle.jimple_rewrite.proofs.Again.{all_again}
use Rattle.jimple_rewrite.proofs.texts.rewrite.Goals as goal

pub returns-in_err-classes-clause-again : goal.returns-in_err-classes-clause-again
returns-in_err-classes-clause-again c = all_again c.args.bytes.now c.requires c.in_err-classes.ensures.formed

pub returns-in-Ok-clause-again : goal.returns-in-Ok-clause-again
returns-in-Ok-clause-again c = all_again c.args.bytes.now c.requires c.in_ok-classes.ensures.formed

pub returns-clause-again : goal.returns-clause-again
returns-clause-again c = all_again c.args.bytes.now c.requires c.in_ok-classes.ensures.formed
