use Rattle.std.proofs.Common.{◌≡◌, ◌<◌, ◌≤◌, ℕ, [], ap, sym, subst, List, ◌+◌, length, get_or}
use Rattle.flat_rows.specs.Converse.{row}
use Rattle.flat_rows.specs.Chains.{LeadsFrom}
use Rattle.flat_rows.proofs.Linking.{chains_same, chains_more, RowFrom, OneMore, row_begun, row_more, row_above, row_done}
use Rattle.flat_rows.proofs.chains.add_row.Goals as goal

pub loop-at-init : goal.loop-at-init
loop-at-init c =
    let rows = c.args.rows.now in
    let node = c.args.node in
    chains_same (LeadsFrom rows (node + 1)) (RowFrom rows node 0) (length rows) c.args.heads.now c.args.links.now.items (row_begun rows node) c.requires.chains

pub add_link-requires-clause-chain : goal.add_link-requires-clause-chain
add_link-requires-clause-chain c =
    let rows = c.args.rows.now in
    let at = get_or c.row-at-items.result.now c.loop-at.at-index 0 in
    let fits = c.requires.graph c.args.node [] c.requires.node in
    let below : at < length rows = subst (λ (ns : List ℕ). get_or ns c.loop-at.at-index 0 < length rows) (sym c.row-at-items.ensures) (fits c.loop-at.at-index 0 (subst (λ (ns : List ℕ). c.loop-at.at-index < length ns) c.row-at-items.ensures c.loop-at-test.true)) in
    let (ps, chain, up, exact) = c.loop-at.invariant.each at below in
    (ps, chain)

pub loop-at-preserved : goal.loop-at-preserved
loop-at-preserved c =
    let rows = c.args.rows.now in
    let node = c.args.node in
    let n = c.loop-at.at-index in
    let at = get_or c.row-at-items.result.now n 0 in
    let fits = c.requires.graph c.args.node [] c.requires.node in
    let within : n < length (row rows node) = subst (λ (ns : List ℕ). n < length ns) c.row-at-items.ensures c.loop-at-test.true in
    let below : at < length rows = subst (λ (ns : List ℕ). get_or ns n 0 < length rows) (sym c.row-at-items.ensures) (fits n 0 within) in
    let named : at ≡ get_or (row rows node) n 0 = ap (λ (ns : List ℕ). get_or ns n 0) c.row-at-items.ensures in
    chains_same (OneMore (RowFrom rows node n) node at) (RowFrom rows node (n + 1)) (length rows) c.add_link.new.heads c.add_link.new.links.items (λ p q. row_more rows node n at p q within named)
    (chains_more (RowFrom rows node n) (length rows) c.loop-at.heads c.loop-at.links.items node at c.loop-at.invariant below (row_above rows node n) c.add_link.new.heads c.add_link.new.links.items c.in_ok-add_link.ensures)

pub returns : goal.returns
returns c =
    let rows = c.args.rows.now in
    let node = c.args.node in
    let n = c.loop-at.at-index in
    let all : length (row rows node) ≤ n = subst (λ (ns : List ℕ). length ns ≤ n) c.row-at-items.ensures c.loop-at-test.false in
    chains_same (RowFrom rows node n) (LeadsFrom rows node) (length rows) c.loop-at.heads c.loop-at.links.items (λ p q. row_done rows node n p q all) c.loop-at.invariant
