use Rattle.std.proofs.Common.{arith, ◌≡◌, ◌∷◌, ◌++◌, [], ℕ, List, ap, inr, slice_index, ◌∙◌}
use Rattle.entry_tables.specs.Tables.{Tables, call_site}
use Rattle.ifds_model.specs.declared.node.Context.{Context}
use Rattle.solver_core.specs.Numbers.{context_at}
use Rattle.solver_core.proofs.Unknown.{context_new, context_kept, unknown_taken, not_known}
use Rattle.solver_core.proofs.Used.{uses_none, uses_both}
use Rattle.solver_core.proofs.moves.take_unknown.Goals as goal

pub returns-clause-taken : goal.returns-clause-taken
returns-clause-taken g c = λ commits lag takes period max_edges.
    let machine = (g.P.Problem.machine c.args.problem.now) in
    let cs = c.args.parts.now.tables.contexts in
    let d = c.args.callee in
    let number = c.open_context-number.result in
    let opened = c.open_context-number.ensures in
    let started = c.take_starts.ensures in
    let at_d : context_at machine.root c.open_context-number.new.parts.tables.contexts number ≡ d =
    ap (λ (x : List (Context g.row.P-Fact.Denot)). context_at machine.root x number) opened.contexts ∙ ap (λ (n : ℕ). context_at machine.root (cs ++ d ∷ []) n) opened.number ∙ context_new machine.root cs d in
    let at_e : context_at machine.root c.open_context-number.new.parts.tables.contexts c.args.context ≡ context_at machine.root cs c.args.context =
    ap (λ (x : List (Context g.row.P-Fact.Denot)). context_at machine.root x c.args.context) opened.contexts ∙ context_kept machine.root cs d c.args.context c.requires.known in
    unknown_taken machine (context_at machine.root cs c.args.context) d c.args.at c.args.starts.now c.requires.starts _ _ _ _ (not_known cs d c.requires.unknown) (opened.opened commits lag takes period max_edges)
    (context_at machine.root c.open_context-number.new.parts.tables.contexts number) at_d
    (context_at machine.root c.take_starts.new.parts.tables.contexts c.args.context) (ap (λ (t : Tables g.row.P-Fact.Denot). context_at machine.root t.contexts c.args.context) started.tables ∙ at_e)
    (context_at machine.root c.take_starts.new.parts.tables.contexts number) (ap (λ (t : Tables g.row.P-Fact.Denot). context_at machine.root t.contexts number) started.tables ∙ at_d)
    (started.taken commits lag takes period max_edges) (c.take_known.ensures.taken commits lag takes period max_edges)

pub returns-clause-uses : goal.returns-clause-uses
returns-clause-uses g c =
    let old = c.args.parts.now.tables in
    let opened = c.open_context-number.new.parts.tables in
    let started = c.take_starts.new.parts.tables in
    let new = c.take_known.new.parts.tables in
    let site = call_site c.args.context c.args.at in
    uses_both site old started new 1 0 0 0 1 0 (uses_both site old opened started 1 0 0 0 0 0 (c.open_context-number.ensures.uses site) (uses_none opened started site c.take_starts.ensures.tables)) c.take_known.ensures.uses

pub take_known-requires-clause-callers : goal.take_known-requires-clause-callers
take_known-requires-clause-callers g c = inr (omega (arith, c.requires.callers, c.open_context-number.ensures.ready, ap (λ (t : Tables g.row.P-Fact.Denot). slice_index t.spare_callers c.open_context-number.result) c.take_starts.ensures.tables))
