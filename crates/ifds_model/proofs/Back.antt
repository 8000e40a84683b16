-- Where a caller only goes on behind its call, its moves are those Go moves.
use Rattle.std.specs.Prelude.{◌≡◌, ◌↔◌, List, Contains, Result, Ok, Err, IfOk}
use Rattle.std.proofs.Common.{sym, subst}
use Rattle.clean_base.specs.declared.ids.StmtId.{StmtId}
use Rattle.ifds_model.specs.declared.node.Context.{Context}
use Rattle.ifds_model.specs.declared.node.Item.TheVariants.{Join}
use Rattle.ifds_model.specs.declared.node.Node.{Node}
use Rattle.ifds_model.specs.declared.node.Move.{Move}
use Rattle.ifds_model.specs.declared.node.Move.TheVariants.{Go}
use Rattle.ifds_model.specs.Machine.{Machine}
use Rattle.ifds_model.specs.Outcome.{AreMovesOf}
use Rattle.ifds_model.specs.State.{GoesBack}

goes_back : {F M : Type 0} (P : Machine F M) (call : StmtId) (x : F) → ((m : Move F M) → P.back call x m → (n : Node) × (f : F) × (m ≡ Go n f))
    → (moves : List (Move F M)) → ((m : Move F M) → Contains moves m ↔ P.back call x m) → (m : Move F M) → Contains moves m ↔ GoesBack P call x m
goes_back {F} {M} P call x only moves are m = (
  λ has.
      let back = (are m).0 has in
      let go = only m back in
      (go.0, go.1, subst (λ (k : Move F M). P.back call x k) go.2 back, go.2),
  λ back. subst (λ (k : Move F M). Contains moves k) (sym back.3) ((are (Go back.0 back.1)).1 back.2),
)

-- so the list of them is the outcome of a join, whatever holds it
pub join_moves : {F M X E : Type 0} (P : Machine F M) (caller callee : Context F) (call : StmtId) (x : F) → ((m : Move F M) → P.back call x m → (n : Node) × (f : F) × (m ≡ Go n f))
    → (items : X → List (Move F M)) (r : Result X E) → IfOk r (λ v. (m : Move F M) → Contains (items v) m ↔ P.back call x m) → IfOk r (λ v. AreMovesOf P (Join caller call callee x) (items v))
join_moves P caller callee call x only items (Ok v) are = goes_back P call x only (items v) are
join_moves P caller callee call x only items (Err e) are = are
