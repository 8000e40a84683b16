use Rattle.std.proofs.Common.{refl}
use Rattle.solver_core.proofs.Gathered.{on_ok}
use Rattle.solver_core.proofs.NewEdges.{go_held, go_new}
use Rattle.solver_core.proofs.limit.gather_go.Goals as goal

pub returns-then-has : goal.returns-then-has
returns-then-has g c = go_held (g.P.Problem.machine c.args.problem.now) c.args.parts.now c.args.context c.args.node c.args.fact c.args.frames.now.keys (c.if-has.ensures.yes refl)

pub returns : goal.returns
returns g c = on_ok c.gather.result _ _
    (go_new (g.P.Problem.machine c.args.problem.now) c.args.parts.now c.args.context c.args.node c.args.fact c.context.result c.args.frames.now.keys c.gather.new.items.keys c.requires.fit c.requires.known c.context.ensures (c.if-has.ensures.no refl))
    c.gather.ensures
