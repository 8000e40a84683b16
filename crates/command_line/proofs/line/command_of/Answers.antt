use Rattle.command_line.proofs.Loops.{option_further}
use Rattle.command_line.proofs.line.command_of.Goals as goal

pub loop-option-preserved : goal.loop-option-preserved
loop-option-preserved c =
    option_further c.args.name.now c.args.options.now c.loop-option.option-index _ _ _ c.loop-option-test.true c.loop-option.invariant c.in_ok-command-2.ensures
