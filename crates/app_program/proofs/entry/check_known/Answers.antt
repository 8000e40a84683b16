use Rattle.std.proofs.Common.{All, sym, subst, ◌∙◌, true≢false}
use Rattle.std.proofs.lemmas.List.{take_all}
use Rattle.std.proofs.lemmas.List.Elements.{All-nil, All-more}
use Rattle.app_program.specs.Entry.{IsKnown}
use Rattle.app_program.proofs.Entered.{refused_at}
use Rattle.app_program.proofs.entry.check_known.Goals as goal

pub loop-component-init : goal.loop-component-init
loop-component-init c = All-nil (IsKnown c.args.table.now)

pub returns-then-not-is_concrete-clause-err : goal.returns-then-not-is_concrete-clause-err
returns-then-not-is_concrete-clause-err c =
    refused_at c.args.table.now c.args.components.now c.loop-component.component-index c.component-item.result c.loop-component-test.true c.component-item.is c.loop-component.invariant
    (λ known. true≢false (sym (c.is_concrete.ensures.1 known) ∙ c.if-not-is_concrete.true)) c.unknown.result c.unknown.ensures

pub loop-component-preserved : goal.loop-component-preserved
loop-component-preserved c =
    let Known = IsKnown c.args.table.now in
    let known = subst Known c.component-item.is (c.is_concrete.ensures.0 c.if-not-is_concrete.false) in
    All-more Known c.args.components.now c.loop-component.component-index c.component-item.result c.loop-component-test.true c.loop-component.invariant known

pub returns-clause-ok : goal.returns-clause-ok
returns-clause-ok c = subst (All (IsKnown c.args.table.now)) (take_all c.loop-component.component-index c.args.components.now c.loop-component-test.false) c.loop-component.invariant
