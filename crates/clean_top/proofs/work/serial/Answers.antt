use Rattle.clean_stage.proofs.Stages.{next, stop_by}
use Rattle.clean_top.proofs.work.serial.Goals as goal

pub returns-in_err-input : goal.returns-in_err-input
returns-in_err-input c = stop_by _ _ c.in_err-input.field-0.0 c.from_residual.ensures.1 c.in_err-input.ensures

pub returns-in_err-program : goal.returns-in_err-program
returns-in_err-program c = next _ _ c.in_ok-input.ensures (stop_by _ _ c.in_err-program.field-0.0 c.from_residual-in_err-program.ensures.1 c.in_err-program.ensures)

pub returns : goal.returns
returns c = next _ _ c.in_ok-input.ensures (next _ _ c.in_ok-program.ensures c.report_of.ensures)
