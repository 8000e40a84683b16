use Rattle.clean_base.specs.declared.ids.MethodId.{MethodId}
use Rattle.app_program.proofs.Placed.{method_fits}
use Rattle.app_program.proofs.methods.locals_of.Goals as goal

pub locals_in-requires : goal.locals_in-requires
locals_in-requires c =
    let m : MethodId = record { 0 = c.loop-m.m } in
    method_fits c.args.table.now m c.method.ensures.0 c.method.result.now c.given-given.ensures.well_formed c.method.ensures.1
