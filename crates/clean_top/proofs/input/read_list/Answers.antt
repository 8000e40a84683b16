use Rattle.clean_stage.proofs.Stages.{by_residual}
use Rattle.clean_stage.specs.Stage.{of_stop}
use Rattle.clean_top.proofs.Worked.{lines_come, lines_stop}
use Rattle.clean_top.proofs.input.read_list.Goals as goal

pub returns-in_err-read_lists : goal.returns-in_err-read_lists
returns-in_err-read_lists c =
    by_residual _ (of_stop c.in_err-read_lists.field-0.0) c.from_residual.ensures.1
    (rw (c.text_at-list.ensures, c.list_place.ensures) at (lines_stop c.text_at-list.result.now _ (rw c.as_slice.ensures at c.in_err-read_lists.ensures.err)))

pub returns : goal.returns
returns c =
    let read = rw c.as_slice.ensures at c.in_ok-read_lists.ensures in
    rw (c.text_at-list.ensures, c.list_place.ensures) at (lines_come c.text_at-list.result.now _ read.ok read.only read.faultless)
