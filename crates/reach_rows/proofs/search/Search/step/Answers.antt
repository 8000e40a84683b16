use Rattle.std.proofs.Common.{◌-◌, ◌<◌, List, ℕ, length, take, subst, arith}
use Rattle.std.specs.Prelude.{Contains}
use Rattle.reach_rows.specs.Graphs.{Steps}
use Rattle.reach_rows.proofs.Paths.{reaches_more}
use Rattle.reach_rows.proofs.Searches.{last_is_marked, leads_to_last}
use Rattle.reach_rows.proofs.search.Search.step.Goals as goal

pub next-requires-clause-node : goal.next-requires-clause-node
next-requires-clause-node c =
    let s = c.args.self.now in
    let at = last_is_marked c.args.rows.now s.marks.items s.passed.items s.path.items s.done.items c.requires.search c.args.node c.requires.last in
    let below : c.args.node < length s.marks.items = at.0 in
    omega (arith, c.requires.search.marks_count)

pub open-requires-clause-from : goal.open-requires-clause-from
open-requires-clause-from c a there =
    let s = c.args.self.now in
    let path = s.path.items in
    reaches_more (Steps c.args.rows.now) a c.args.node c.in-Some.next
    (leads_to_last c.args.rows.now path (take (length path - 1) path) c.args.node c.requires.search.joined c.requires.last a (subst (λ (xs : List ℕ). Contains xs a) c.next.ensures.path there))
    c.in-Some.ensures.row
