-- All calls of one item stand at one statement.
use Rattle.std.specs.Prelude.{List}
use Rattle.std.proofs.Common.{sym, subst}
use Rattle.clean_base.specs.declared.ids.MethodId.{MethodId}
use Rattle.clean_base.specs.declared.ids.StmtId.{StmtId}
use Rattle.ifds_model.specs.declared.node.Item.{Item}
use Rattle.ifds_model.specs.declared.node.Item.TheVariants.{Edge, Join}
use Rattle.ifds_model.specs.declared.node.Move.{Move}
use Rattle.ifds_model.specs.declared.node.Move.TheVariants.{Go, Call, Exit, Mark}
use Rattle.ifds_model.specs.declared.node.Node.{Node}
use Rattle.ifds_model.specs.Laws.{IsLawful}
use Rattle.ifds_model.specs.Machine.{Machine}
use Rattle.ifds_model.specs.Outcome.{AreMovesOf}
use Rattle.solver_core.specs.Room.{StandsAt, StandTogether}

module _ {F M : Type 0} (P : Machine F M) (method_of : StmtId → MethodId) (reaches : MethodId → MethodId → Type 0) (lawful : IsLawful P method_of reaches) where
  stands_here : (n : Node) (f : F) (m : Move F M) → P.step n f m → StandsAt n.stmt m
  stands_here n f (Go node fact) steps = tt
  stands_here n f (Call at d) steps = lawful.calls_here n f at d steps
  stands_here n f (Exit x) steps = tt
  stands_here n f (Mark m) steps = tt

  pub stand_together : (item : Item F) (moves : List (Move F M)) → AreMovesOf P item moves → StandTogether moves
  stand_together (Edge context n f) moves exact = (n.stmt, λ m has. stands_here n f m ((exact m).0 has))
  stand_together (Join caller call callee exit) moves exact = (call, λ m has. let back = (exact m).0 has in subst (λ (step : Move F M). StandsAt call step) (sym back.3) tt)
