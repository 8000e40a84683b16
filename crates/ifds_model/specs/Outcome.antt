-- What contracts see of the outcome of an item: its problem, the item, and the moves of that item in that problem.
use Rattle.std.specs.Prelude.{◌↔◌, List, Contains}
use Rattle.ifds_model.specs.declared.node.Item.{Item}
use Rattle.ifds_model.specs.declared.node.Move.{Move}
use Rattle.ifds_model.specs.Machine.{Machine}
use Rattle.ifds_model.specs.State.{MovesOf}

pub record Work (P F M : Type 0) : Type 0 where
  pub problem : P
  pub item : Item F
  pub moves : List (Move F M)

-- the list has the moves of the item, and no others
abbrev pub AreMovesOf : {F M : Type 0} → Machine F M → Item F → List (Move F M) → Type 0
AreMovesOf {F} {M} P item moves = (m : Move F M) → Contains moves m ↔ MovesOf P item m
