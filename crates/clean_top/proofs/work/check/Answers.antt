use Rattle.clean_stage.proofs.Stages.{next, stop_by, is_done}
use Rattle.clean_top.proofs.work.check.Goals as goal

pub returns-in_err-classes : goal.returns-in_err-classes
returns-in_err-classes c = stop_by _ _ c.in_err-classes.field-0.0 c.from_residual.ensures.1 (rw c.as_slice.ensures at c.in_err-classes.ensures.comes)

pub returns-in_err-table : goal.returns-in_err-table
returns-in_err-table c =
    next _ _ (rw c.as_slice.ensures at c.in_ok-classes.ensures.comes)
    (stop_by _ _ c.in_err-table.field-0.0 c.from_residual-in_err-table.ensures.1 c.in_err-table.ensures)

pub returns : goal.returns
returns c =
    next _ _ (rw c.as_slice.ensures at c.in_ok-classes.ensures.comes)
    (next _ _ c.in_ok-table.ensures (rw c.in_ok-count.ensures (is_done _)))
