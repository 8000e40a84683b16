use Rattle.std.proofs.Common.{sym, subst}
use Rattle.std.proofs.lemmas.Result.{err_from_is_err_and}
use Rattle.app_program.specs.Entry.{IsRoot}
use Rattle.app_program.specs.Program.{IsProgram}
use Rattle.app_program.proofs.Entered.{one_root}
use Rattle.app_program.proofs.Made.{closed_refused, made, no_fault, only, only_closed, refused}
use Rattle.app_program.proofs.Parted.{gathered_parts}
use Rattle.app_program.proofs.Same.{one_program}
use Rattle.app_program.proofs.program.assemble.Goals as goal
use Rattle.app_program.proofs.program.assemble.Goals.{After-new-in-Ok}

pub returns-in_err-root-clause-err : goal.returns-in_err-root-clause-err
returns-in_err-root-clause-err c =
    let p = err_from_is_err_and c.from_residual.result c.from_residual.ensures.1 in
    rw (p.1, p.2) (closed_refused c.args.table c.args.entry.now c.in_err-root.field-0.0 c.in_err-root.ensures.err)

pub returns-in_err-root-clause-only : goal.returns-in_err-root-clause-only
returns-in_err-root-clause-only c =
    let p = err_from_is_err_and c.from_residual.result c.from_residual.ensures.1 in
    rw (p.1, p.2) (only_closed c.args.table c.args.entry.now c.in_err-root.field-0.0 c.in_err-root.ensures.err c.in_err-root.ensures.only)

pub returns-in_err-fields-clause-err : goal.returns-in_err-fields-clause-err
returns-in_err-fields-clause-err c =
    let p = err_from_is_err_and c.from_residual-in_err-fields.result c.from_residual-in_err-fields.ensures.1 in
    rw (p.1, p.2) (refused c.args.table c.args.entry.now c.in_ok-root.root c.in_ok-root.ensures.ok c.in_err-fields.field-0.0 c.in_err-fields.ensures.err)

pub returns-in_err-fields-clause-only : goal.returns-in_err-fields-clause-only
returns-in_err-fields-clause-only c =
    let p = err_from_is_err_and c.from_residual-in_err-fields.result c.from_residual-in_err-fields.ensures.1 in
    rw (p.1, p.2) (only c.args.table c.args.entry.now c.in_ok-root.root c.in_ok-root.ensures.ok c.in_err-fields.field-0.0 c.in_err-fields.ensures.only)

pub parts_of-requires-clause-root : goal.parts_of-requires-clause-root
parts_of-requires-clause-root c = let root = c.in_ok-root.ensures.ok in let (class, method, number, is) = root.declared in number.0

pub new-requires-in-Ok : goal.new-requires-in-Ok
new-requires-in-Ok c = gathered_parts c.args.table c.args.lists.now c.in-Ok.parts c.in-Ok.ensures.gathered c.given-classes.ensures.well_formed c.given-classes.ensures.table

-- what was gathered makes the program
is_program : (c : After-new-in-Ok) → IsProgram c.args.table c.args.lists.now c.args.entry.now c.new-in-Ok.result
is_program c =
    let cs = c.args.table in
    let entry = c.args.entry.now in
    let root = subst (IsRoot cs entry) (sym c.in-Ok.ensures.root) c.in_ok-root.ensures.ok in
    subst (IsProgram cs c.args.lists.now entry) (sym c.new-in-Ok.ensures) (made cs entry c.args.lists.now c.in-Ok.parts c.in-Ok.ensures.gathered root)

pub returns-in-Ok-clause-ok : goal.returns-in-Ok-clause-ok
returns-in-Ok-clause-ok c = is_program c

pub returns-in-Ok-clause-one : goal.returns-in-Ok-clause-one
returns-in-Ok-clause-one c = λ q also.
    let cs = c.args.table in
    let entry = c.args.entry.now in
    one_program cs c.args.lists.now entry c.in_ok-fields.ensures.one (one_root cs entry c.in_ok-root.root c.in_ok-root.ensures.one) c.new-in-Ok.result q (is_program c) also

pub returns-in-Ok-clause-faultless : goal.returns-in-Ok-clause-faultless
returns-in-Ok-clause-faultless c = no_fault c.args.table c.args.entry.now c.in_ok-root.root c.in_ok-root.ensures.ok c.in_ok-fields.ensures.faultless
