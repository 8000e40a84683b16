use Rattle.std.proofs.Common.{◌≡◌, ◌∙◌, [], length, ap, arith}
use Rattle.std.proofs.lemmas.List.{get_or_read}
use Rattle.reach_rows.specs.Graphs.{row}
use Rattle.reach_rows.proofs.Searches.{row_seen, front_read, passed_more}
use Rattle.reach_rows.proofs.search.Search.next.Goals as goal

pub returns-then-at-row-clause-row : goal.returns-then-at-row-clause-row
returns-then-at-row-clause-row c =
    let s = c.args.self.now in
    let rows = c.args.rows.now in
    let same : c.as_slice-row.result.now ≡ row rows c.args.node = c.as_slice-row.ensures ∙ get_or_read rows c.args.node c.index-rows-node.result c.requires.node c.index-rows-node.is [] in
    let long : length c.as_slice-row.result.now ≡ length (row rows c.args.node) = ap length same in
    row_seen rows s.marks.items c.args.node c.first_unseen-at.result
    (front_read rows s.marks.items s.passed.items s.path.items s.done.items c.requires.search c.args.node c.first_unseen-at.result c.index.result.now c.as_slice-row.result.now same c.index.ensures c.requires.node c.first_unseen-at.ensures.passed)
    (omega (arith, c.if-at-row.true))

pub returns-clause-search : goal.returns-clause-search
returns-clause-search c =
    let s = c.args.self.now in
    let rows = c.args.rows.now in
    let same : c.as_slice-row.result.now ≡ row rows c.args.node = c.as_slice-row.ensures ∙ get_or_read rows c.args.node c.index-rows-node.result c.requires.node c.index-rows-node.is [] in
    passed_more rows s.marks.items s.passed.items s.path.items s.done.items c.requires.search c.args.node c.first_unseen-at.result
    (front_read rows s.marks.items s.passed.items s.path.items s.done.items c.requires.search c.args.node c.first_unseen-at.result c.index.result.now c.as_slice-row.result.now same c.index.ensures c.requires.node c.first_unseen-at.ensures.passed)
