use Rattle.clean_stage.proofs.Stages.{by_residual}
use Rattle.clean_stage.specs.Stage.{of_stop}
use Rattle.clean_top.proofs.Worked.{program_comes, program_stops}
use Rattle.clean_top.proofs.work.program_of.Goals as goal

pub returns-in_err-assemble : goal.returns-in_err-assemble
returns-in_err-assemble c =
    let refused = c.in_err-assemble.ensures in
    by_residual _ (of_stop c.in_err-assemble.field-0.0) c.from_residual.ensures.1 (program_stops c.args.input c.in_err-assemble.field-0.0 refused.err refused.only)

pub returns : goal.returns
returns c =
    let made = c.in_ok-assemble.ensures in
    program_comes c.args.input _ made.ok made.one made.faultless
