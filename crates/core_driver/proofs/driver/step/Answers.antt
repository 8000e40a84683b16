use Rattle.std.proofs.Common.{sym, ◌∙◌}
use Rattle.core_driver.proofs.Hands.{first_idle}
use Rattle.core_driver.proofs.Steps.{hand_now}
use Rattle.core_driver.proofs.Taking.{taken_first, over_now, ready_now, stepped_now, refused_now}
use Rattle.core_driver.proofs.driver.step.Goals as goal

pub take-taken-requires-clause-idle : goal.take-taken-requires-clause-idle
take-taken-requires-clause-idle g c = first_idle _ c.requires.workers c.requires.idle

pub returns-clause-step : goal.returns-clause-step
returns-clause-step g c = (over_now _ _ c.requires c.take-taken.result (sym c.taken_item.ensures ∙ c.in-None.is) c.take-taken.ensures.idle c.take-taken.ensures.finished).0

pub carry_out-requires-clause-flies : goal.carry_out-requires-clause-flies
carry_out-requires-clause-flies g c =
    let t = taken_first _ _ c.take-taken.result c.in-Some.item (sym c.taken_item.ensures ∙ c.in-Some.is) c.take-taken.ensures.took in
    hand_now _ _ c.in-Some.item t.1 t.0

pub returns-in-Some-clause-ready : goal.returns-in-Some-clause-ready
returns-in-Some-clause-ready g c =
    let t = taken_first _ _ c.take-taken.result c.in-Some.item (sym c.taken_item.ensures ∙ c.in-Some.is) c.take-taken.ensures.took in
    ready_now (g.P.Problem.machine c.take-taken.new.self.problem) _ _ _ c.in-Some.item t.1 t.0 _ c.carry_out.ensures.event c.requires

pub returns-in-Some-clause-step : goal.returns-in-Some-clause-step
returns-in-Some-clause-step g c =
    let t = taken_first _ _ c.take-taken.result c.in-Some.item (sym c.taken_item.ensures ∙ c.in-Some.is) c.take-taken.ensures.took in
    stepped_now (g.P.Problem.machine c.take-taken.new.self.problem) _ _ _ c.in-Some.item t.1 t.0 _ c.carry_out.ensures.event c.carry_out.ensures.within c.carry_out.ensures.kind

pub returns-in-Some-clause-refused : goal.returns-in-Some-clause-refused
returns-in-Some-clause-refused g c =
    let t = taken_first _ _ c.take-taken.result c.in-Some.item (sym c.taken_item.ensures ∙ c.in-Some.is) c.take-taken.ensures.took in
    refused_now g.P.Problem.machine c.args.state.now.problem c.take-taken.new.self.problem c.take-taken.ensures.problem _ _ t.0 _ c.carry_out.ensures.refused
