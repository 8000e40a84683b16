use Rattle.std.proofs.Common.{◌≡◌, ◌≢◌, ◌∙◌, ℕ, List, [], length, get_or, ap, subst, arith}
use Rattle.statement_graph.proofs.Rowed.{RowsBehind, left_exact, numbers_fit, rows_more}
use Rattle.statement_graph.proofs.rows.add_rows.Goals as goal

pub add_row_at-requires-clause-fit : goal.add_row_at-requires-clause-fit
add_row_at-requires-clause-fit c =
    let b = c.args.body.now in
    let at = c.loop-at.at in
    let places = c.as_mut_slice-places.result.now in
    let long : length places ≡ length b.stmts = ap (λ (ls : List (List ℕ)). length ls) c.as_mut_slice-places.ensures.value ∙ c.in_ok-lists.ensures.len in
    let exact = left_exact b c.in_ok-lists.lists.items places c.loop-at.places at c.as_mut_slice-places.ensures.value (c.loop-at.invariant.left at (omega arith)) (omega (arith, c.loop-at-test.true, long)) c.in_ok-lists.ensures.exact in
    numbers_fit b c.args.first at (get_or c.loop-at.places at []) c.requires.fits c.requires.few exact

pub loop-at-preserved : goal.loop-at-preserved
loop-at-preserved c =
    let b = c.args.body.now in
    let at = c.loop-at.at in
    let places = c.as_mut_slice-places.result.now in
    let long : length places ≡ length b.stmts = ap (λ (ls : List (List ℕ)). length ls) c.as_mut_slice-places.ensures.value ∙ c.in_ok-lists.ensures.len in
    let exact = left_exact b c.in_ok-lists.lists.items places c.loop-at.places at c.as_mut_slice-places.ensures.value (c.loop-at.invariant.left at (omega arith)) (omega (arith, c.loop-at-test.true, long)) c.in_ok-lists.ensures.exact in
    record {
      rows = rows_more b c.args.first at (get_or c.loop-at.places at []) c.args.rows.now c.loop-at.rows c.add_row_at.new.rows exact c.loop-at.invariant.rows c.in_ok-add_row_at.ensures.row;
      left = λ s past. let other : s ≢ at = omega (arith, past) in c.in_ok-add_row_at.ensures.others s other ∙ c.loop-at.invariant.left s (omega (arith, past));
    }

pub returns : goal.returns
returns c =
    let b = c.args.body.now in
    let long : length c.as_mut_slice-places.result.now ≡ length b.stmts = ap (λ (ls : List (List ℕ)). length ls) c.as_mut_slice-places.ensures.value ∙ c.in_ok-lists.ensures.len in
    let all : c.loop-at.at ≡ length b.stmts = omega (arith, c.loop-at-test.false, c.loop-at.auto.at-end, long) in
    subst (λ (n : ℕ). RowsBehind b c.args.first n c.args.rows.now c.loop-at.rows) all c.loop-at.invariant.rows
