use Rattle.std.proofs.Common.{◌≡◌, subst, sym, OnOk}
use Rattle.solver_core.specs.Gathered.{Gathers, IsNewTo}
use Rattle.solver_core.proofs.limit.gather_move.Goals as goal

pub returns-in-Go : goal.returns-in-Go
returns-in-Go g c = subst (λ s. OnOk c.gather_go.result (Gathers (IsNewTo (g.P.Problem.machine c.args.problem.now) c.args.parts.now c.args.context (λ m. m ≡ s)) c.args.frames.now.keys c.gather_go.new.frames.keys)) (sym c.in-Go.is) c.gather_go.ensures

pub returns-in-Call : goal.returns-in-Call
returns-in-Call g c = subst (λ s. OnOk c.gather_call.result (Gathers (IsNewTo (g.P.Problem.machine c.args.problem.now) c.args.parts.now c.args.context (λ m. m ≡ s)) c.args.frames.now.keys c.gather_call.new.frames.keys)) (sym c.in-Call.is) c.gather_call.ensures
