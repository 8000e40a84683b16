use Rattle.std.proofs.Common.{arith}
use Rattle.solver_core.proofs.First.{some_start, first_start}
use Rattle.solver_core.proofs.parts.first_start.Goals as goal

pub index-requires : goal.index-requires
index-requires g c = omega (arith, c.starts.new.out.ok.0, some_start (g.P.Problem.machine c.args.problem.now) c.args.root.now c.requires (g.met.P.Problem.one_start c.args.problem.now) c.new-starts.result.items c.starts.new.out.items c.new-starts.ensures.items c.in_ok-starts.ensures)

pub returns : goal.returns
returns g c = first_start (g.P.Problem.machine c.args.problem.now) c.args.root.now c.requires (g.met.P.Problem.one_start c.args.problem.now) c.new-starts.result.items c.starts.new.out.items c.new-starts.ensures.items c.in_ok-starts.ensures c.index.result.now c.index.ensures
