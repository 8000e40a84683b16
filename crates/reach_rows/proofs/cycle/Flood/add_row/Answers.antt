use Rattle.std.proofs.Common.{◌∷◌, [], ℕ, List, get_or, take, sym, subst}
use Rattle.std.proofs.lemmas.List.{take_more}
use Rattle.reach_rows.specs.Cycles.{IsAdded}
use Rattle.reach_rows.proofs.Floods.{added_more}
use Rattle.reach_rows.proofs.cycle.Flood.add_row.Goals as goal

pub loop-node-preserved : goal.loop-node-preserved
loop-node-preserved c =
    let row = c.args.row.now in
    let i = c.loop-node.node-index in
    let old = c.args.self.now in
    let mid = c.loop-node.self in
    let new = c.add.new.self in
    subst (λ (xs : List ℕ). IsAdded xs old.seen.items old.waiting.items new.seen.items new.waiting.items) (sym (take_more row i 0 c.loop-node-test.true))
    (added_more (take i row) (get_or row i 0 ∷ []) old.seen.items mid.seen.items new.seen.items old.waiting.items mid.waiting.items new.waiting.items c.loop-node.invariant c.in_ok-add.ensures)
