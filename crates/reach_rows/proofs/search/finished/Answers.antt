use Rattle.std.proofs.Common.{ℕ, List, subst, arith}
use Rattle.reach_rows.specs.Search.{IsSearchState}
use Rattle.reach_rows.proofs.Searches.{ends}
use Rattle.reach_rows.proofs.search.finished.Goals as goal

pub returns : goal.returns
returns c =
    let s = c.loop-node.search in
    let rows = c.args.rows.now in
    ends rows s.marks.items s.passed.items s.done.items (subst (λ (path : List ℕ). IsSearchState rows s.marks.items s.passed.items path s.done.items) c.loop-node.invariant.path c.loop-node.invariant.search)
    (λ a below. c.loop-node.invariant.seen a (omega (arith, c.loop-node-test.false)))
