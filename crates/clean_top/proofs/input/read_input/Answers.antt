use Rattle.clean_stage.proofs.Stages.{by_residual, next, stop_by, is_done, out_of_memory}
use Rattle.clean_top.proofs.input.read_input.Goals as goal

pub returns-in_err-classes : goal.returns-in_err-classes
returns-in_err-classes c = stop_by _ _ c.in_err-classes.field-0.0 c.from_residual.ensures.1 (rw c.as_slice.ensures at c.in_err-classes.ensures.comes)

pub returns-in_err-entry : goal.returns-in_err-entry
returns-in_err-entry c =
    next _ _ (rw c.as_slice.ensures at c.in_ok-classes.ensures.comes)
    (stop_by _ _ c.in_err-entry.field-0.0 c.from_residual-in_err-entry.ensures.1 (rw c.as_slice-2.ensures at c.in_err-entry.ensures.comes))

pub returns-in_err-lists : goal.returns-in_err-lists
returns-in_err-lists c =
    next _ _ (rw c.as_slice.ensures at c.in_ok-classes.ensures.comes)
    (next _ _ (rw c.as_slice-2.ensures at c.in_ok-entry.ensures.comes)
    (stop_by _ _ c.in_err-lists.field-0.0 c.from_residual-in_err-lists.ensures.1 (rw c.as_slice-3.ensures at c.in_err-lists.ensures)))

pub returns-in_err-with_main : goal.returns-in_err-with_main
returns-in_err-with_main c = by_residual _ _ c.from_residual-in_err-with_main.ensures.1 (out_of_memory _)

pub returns-in_err-table : goal.returns-in_err-table
returns-in_err-table c =
    next _ _ (rw c.as_slice.ensures at c.in_ok-classes.ensures.comes)
    (next _ _ (rw c.as_slice-2.ensures at c.in_ok-entry.ensures.comes)
    (next _ _ (rw c.as_slice-3.ensures at c.in_ok-lists.ensures)
    (stop_by _ _ c.in_err-table.field-0.0 c.from_residual-in_err-table.ensures.1 (rw c.in_ok-with_main.ensures.with at c.in_err-table.ensures))))

pub returns : goal.returns
returns c =
    next _ _ (rw c.as_slice.ensures at c.in_ok-classes.ensures.comes)
    (next _ _ (rw c.as_slice-2.ensures at c.in_ok-entry.ensures.comes)
    (next _ _ (rw c.as_slice-3.ensures at c.in_ok-lists.ensures)
    (next _ _ (rw c.in_ok-with_main.ensures.with at c.in_ok-table.ensures)
    (is_done _))))
