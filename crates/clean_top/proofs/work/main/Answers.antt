use Rattle.clean_stage.proofs.Stages.{next, stop_by}
use Rattle.clean_top.proofs.Worked.{main_printed}
use Rattle.clean_top.proofs.work.main.Goals as goal

pub returns-in_err-components : goal.returns-in_err-components
returns-in_err-components c =
    stop_by _ _ c.in_err-components.field-0.0 c.from_residual.ensures.1 (rw (c.text_at.ensures, c.as_slice.ensures) at c.in_err-components.ensures.comes)

pub returns : goal.returns
returns c =
    next _ _ (rw (c.text_at.ensures, c.as_slice.ensures) at c.in_ok-components.ensures.comes)
    (main_printed c.in_ok-components.components c.in_ok-class.class c.in_ok-print.field-0 (rw c.as_slice-2.ensures at c.in_ok-class.ensures.laid_out) c.in_ok-print.ensures)
