-- The moves of a join are those that `join_moves` gives, which go on.
use Rattle.std.proofs.Common.{IfOk, sym, subst}
use Rattle.ifds_model.specs.declared.node.Item.{Item}
use Rattle.ifds_model.specs.Outcome.{AreMovesOf}
use Rattle.ifds_model.proofs.Back.{join_moves}
use Rattle.ifds_model.proofs.outcome.moves_of.Goals as goal

pub returns-in-Join : goal.returns-in-Join
returns-in-Join g c =
    let machine = g.P.Problem.machine c.args.problem.now in
    let only = g.met.P.Problem.back_goes c.args.problem.now c.in-Join.call c.in-Join.exit in
    subst (λ (i : Item g.row.P-Fact.Denot). IfOk c.join_moves.result (λ v. AreMovesOf machine i v.items)) (sym c.in-Join.is) (join_moves machine c.in-Join.caller c.in-Join.callee c.in-Join.call c.in-Join.exit only (λ v. v.items) c.join_moves.result c.join_moves.ensures)
