use Rattle.std.proofs.Common.{List, sym, subst}
use Rattle.std.proofs.lemmas.List.{get_or_default, take_all}
use Rattle.clean_base.specs.declared.ids.MethodId.{MethodId}
use Rattle.taint_problem.specs.Moves.{LeadsFrom}
use Rattle.taint_problem.proofs.crossing.leads_from.Goals as goal

pub closure_has-requires-clause-from : goal.closure_has-requires-clause-from
closure_has-requires-clause-from c = c.requires.from _ (c.loop-m.m-index, c.loop-m-test.true, get_or_default c.args.from.now c.loop-m.m-index _ _ c.loop-m-test.true)

pub returns : goal.returns
returns c =
    let whole = take_all c.loop-m.m-index c.args.from.now c.loop-m-test.false in (
      (λ is. absurd (cc)),
      (λ led. absurd (c.loop-m.invariant (subst (λ (ms : List MethodId). LeadsFrom c.args.program.now.code ms c.args.to) (sym whole) led))),
    )
