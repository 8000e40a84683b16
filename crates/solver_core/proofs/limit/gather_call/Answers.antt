use Rattle.solver_core.proofs.Gathered.{on_ok}
use Rattle.solver_core.proofs.NewEdges.{call_new, all_added}
use Rattle.solver_core.proofs.limit.gather_call.Goals as goal

pub returns-in_default : goal.returns-in_default
returns-in_default g c =
    let P = g.P.Problem.machine c.args.problem.now in
    on_ok c.gather_starts.result _ _
    (call_new P c.args.parts.now c.args.context c.args.at c.args.callee c.as_slice.result.now c.args.frames.now.keys c.gather_starts.new.frames.keys c.requires.fit (c.in_default.ensures.unknown)
    (all_added (P.start c.args.callee) c.new-starts.result.items c.starts.new.out.items c.as_slice.result.now c.new-starts.ensures.items c.as_slice.ensures.value c.in_ok-starts.ensures))
    c.gather_starts.ensures
