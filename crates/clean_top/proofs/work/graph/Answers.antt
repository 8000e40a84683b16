use Rattle.clean_stage.proofs.Stages.{next, stop_by, is_done}
use Rattle.clean_top.proofs.work.graph.Goals as goal

pub returns-in_err-input : goal.returns-in_err-input
returns-in_err-input c = stop_by _ _ c.in_err-input.field-0.0 c.from_residual.ensures.1 c.in_err-input.ensures

pub returns-in_err-root : goal.returns-in_err-root
returns-in_err-root c =
    next _ _ c.in_ok-input.ensures
    (stop_by _ _ c.in_err-root.field-0.0 c.from_residual-in_err-root.ensures.1 c.in_err-root.ensures.comes)

pub returns-in_err-calls : goal.returns-in_err-calls
returns-in_err-calls c =
    next _ _ c.in_ok-input.ensures
    (next _ _ c.in_ok-root.ensures.comes
    (stop_by _ _ c.in_err-calls.field-0.0 c.from_residual-in_err-calls.ensures.1 c.in_err-calls.ensures))

pub returns : goal.returns
returns c =
    next _ _ c.in_ok-input.ensures
    (next _ _ c.in_ok-root.ensures.comes
    (next _ _ c.in_ok-calls.ensures
    (rw c.in_ok-draw.ensures (is_done _))))
