use Rattle.clean_stage.proofs.Stages.{next, stop_by, is_done}
use Rattle.clean_top.proofs.input.read_entry.Goals as goal

pub returns-in_err-read_component_list-in-Components-clause-comes : goal.returns-in_err-read_component_list-in-Components-clause-comes
returns-in_err-read_component_list-in-Components-clause-comes c =
    rw c.in-Components.is
    (stop_by _ _ c.in_err-read_component_list-in-Components.field-0.0 c.from_residual-in_err-read_component_list-in-Components.ensures.1 (rw c.text_at.ensures at c.in_err-read_component_list-in-Components.ensures.comes))

pub returns-in_ok-read_component_list-in-Components-clause-comes : goal.returns-in_ok-read_component_list-in-Components-clause-comes
returns-in_ok-read_component_list-in-Components-clause-comes c =
    rw c.in-Components.is (next _ _ (rw c.text_at.ensures at c.in_ok-read_component_list-in-Components.ensures.comes) (is_done _))
