use Rattle.std.proofs.Common.{◌≡◌, subst}
use Rattle.solver_core.specs.Gathered.{Gathers, IsOfEach, IsNewTo}
use Rattle.solver_core.proofs.NewEdges.{counted}
use Rattle.solver_core.proofs.limit.new_edges.Goals as goal

pub returns : goal.returns
returns g c = λ commits lag takes period max_edges.
    let P = g.P.Problem.machine c.args.problem.now in
    counted P c.args.parts.now c.args.context c.args.moves.now c.gather_moves.new.frames.keys c.len.result
    (subst (λ xs. Gathers (IsOfEach (λ step. IsNewTo P c.args.parts.now c.args.context (λ m. m ≡ step)) c.args.moves.now) xs c.gather_moves.new.frames.keys) c.new-frames.ensures.empty c.in_ok-gather_moves.ensures)
    c.len.ensures.len
