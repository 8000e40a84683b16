use Rattle.std.proofs.Common.{sym, ap, subst, ◌∙◌}
use Rattle.std.proofs.lemmas.List.Elements.{All-nil}
use Rattle.std.proofs.lemmas.Result.{err_from_is_err_and}
use Rattle.dummy_main.specs.Layout.{main_sig}
use Rattle.app_program.specs.Entry.{components_of, start_of, AreKnown, IsKnown}
use Rattle.app_program.proofs.Entered.{only_root_fault, root_err, root_faultless, root_only, unknown_refused}
use Rattle.app_program.proofs.entry.root_of.Goals as goal
use Rattle.app_program.proofs.entry.root_of.Goals.{After-declared, After-generated}

pub returns-in_err-check_known-in-Components-clause-err : goal.returns-in_err-check_known-in-Components-clause-err
returns-in_err-check_known-in-Components-clause-err c =
    let p = err_from_is_err_and c.from_residual.result c.from_residual.ensures.1 in
    let are = ap components_of c.in-Components.is ∙ sym c.as_slice.ensures in
    rw (p.1, p.2) (unknown_refused c.args.table.now c.args.entry.now c.as_slice.result.now are c.in_err-check_known-in-Components.field-0.0 c.in_err-check_known-in-Components.ensures.err)

pub returns-in_err-check_known-in-Components-clause-only : goal.returns-in_err-check_known-in-Components-clause-only
returns-in_err-check_known-in-Components-clause-only c =
    let p = err_from_is_err_and c.from_residual.result c.from_residual.ensures.1 in
    let are = ap components_of c.in-Components.is ∙ sym c.as_slice.ensures in
    let stop = c.in_err-check_known-in-Components.field-0.0 in
    rw (p.1, p.2) (only_root_fault c.args.table.now c.args.entry.now stop (unknown_refused c.args.table.now c.args.entry.now c.as_slice.result.now are stop c.in_err-check_known-in-Components.ensures.err))

-- a method alone names no components
method_known : (c : After-declared) → AreKnown c.args.table.now (components_of c.args.entry.now)
method_known c = subst (AreKnown c.args.table.now) (sym (ap components_of c.in-Method.is)) (All-nil (IsKnown c.args.table.now))

pub returns-in-Method-clause-faultless : goal.returns-in-Method-clause-faultless
returns-in-Method-clause-faultless c =
    root_faultless c.args.table.now c.args.entry.now c.in-Method.sig (ap start_of c.in-Method.is) (method_known c) c.declared.result c.declared.ensures.some

pub returns-in-Method-clause-err : goal.returns-in-Method-clause-err
returns-in-Method-clause-err c =
    root_err c.args.table.now c.args.entry.now c.in-Method.sig (ap start_of c.in-Method.is) (method_known c) c.declared.result c.declared.ensures.none

-- all components that it names were found to be known
named_known : (c : After-generated) → AreKnown c.args.table.now (components_of c.args.entry.now)
named_known c = subst (AreKnown c.args.table.now) (c.as_slice.ensures ∙ sym (ap components_of c.in-Components.is)) c.in_ok-check_known-in-Components.ensures.ok

pub returns-in_ok-check_known-in-Components-clause-faultless : goal.returns-in_ok-check_known-in-Components-clause-faultless
returns-in_ok-check_known-in-Components-clause-faultless c =
    root_faultless c.args.table.now c.args.entry.now main_sig (ap start_of c.in-Components.is) (named_known c) c.generated.result c.generated.ensures.ok

pub returns-in_ok-check_known-in-Components-clause-err : goal.returns-in_ok-check_known-in-Components-clause-err
returns-in_ok-check_known-in-Components-clause-err c =
    root_err c.args.table.now c.args.entry.now main_sig (ap start_of c.in-Components.is) (named_known c) c.generated.result c.generated.ensures.none

pub returns-in_ok-check_known-in-Components-clause-only : goal.returns-in_ok-check_known-in-Components-clause-only
returns-in_ok-check_known-in-Components-clause-only c =
    root_only c.args.table.now c.args.entry.now main_sig (ap start_of c.in-Components.is) (named_known c) c.generated.result c.generated.ensures.none
