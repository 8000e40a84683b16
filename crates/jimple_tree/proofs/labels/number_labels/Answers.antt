use Rattle.std.proofs.Common.{arith, ◌≡◌, ℕ, ◌+◌, ◌≤◌, ◌∙◌, ap, length, take, drop, get_or, replicate, ◌++◌}
use Rattle.std.specs.List.{flat_map}
use Rattle.std.proofs.lemmas.List.{take_at, length-replicate}
use Rattle.std.proofs.lemmas.List.Elements.{All-same, All-replicate}
use Rattle.jimple_tree.specs.Labels.{catch_places, marked, targets_of}
use Rattle.jimple_tree.proofs.Numbers.{targets_fit, marked_small, length-marked, numbered}
use Rattle.jimple_tree.proofs.labels.number_labels.Goals as goal

pub mark_stmts-requires : goal.mark_stmts-requires
mark_stmts-requires c k d inside =
    let stmts = c.as_slice-stmts.result.now in
    let same : stmts ≡ c.args.body.now.stmts = c.as_slice-stmts.ensures in
    let long : length c.as_mut_slice-marks.result.now ≡ length stmts + 1 =
    ap length (c.as_mut_slice-marks.ensures.value ∙ c.in_ok-labels.ensures) ∙ length-replicate (length stmts + 1) 0 in
    let same_long : length stmts ≡ length c.args.body.now.stmts = ap length same in
    targets_fit c.args.body.now (get_or stmts k d) (length c.as_mut_slice-marks.result.now)
    (rw same (c.requires.stmts k d (omega arith))) (omega arith)

pub add_up-requires : goal.add_up-requires
add_up-requires c =
    let small : ℕ → Type 0 = λ m. m ≤ 1 in
    let zeros = All-same small _ _ (c.as_mut_slice-marks.ensures.value ∙ c.in_ok-labels.ensures)
    (All-replicate small (length c.as_slice-stmts.result.now + 1) 0 (omega arith)) in
    let first = All-same small _ _ c.mark_stmts.ensures (marked_small (flat_map targets_of c.as_slice-stmts.result.now) _ zeros) in
    All-same small _ _ c.mark_catches.ensures (marked_small (flat_map catch_places c.as_slice.result.now) _ first)

pub returns : goal.returns
returns c =
    let b = c.args.body.now in
    let stmts = c.as_slice-stmts.result.now in
    let marks = c.mark_catches.new.marks in
    let labels = c.add_up.new.marks in
    let zeros : c.as_mut_slice-marks.result.now ≡ replicate (length stmts + 1) 0 =
    c.as_mut_slice-marks.ensures.value ∙ c.in_ok-labels.ensures in
    let made : marks ≡ marked (flat_map catch_places b.catches) (marked (flat_map targets_of b.stmts) (replicate (length stmts + 1) 0)) =
    c.mark_catches.ensures
    ∙ ap (λ l. marked (flat_map catch_places l) c.mark_stmts.new.marks) c.as_slice.ensures
    ∙ ap (marked (flat_map catch_places b.catches))
    (c.mark_stmts.ensures ∙ ap (λ l. marked (flat_map targets_of l) c.as_mut_slice-marks.result.now) c.as_slice-stmts.ensures
    ∙ ap (marked (flat_map targets_of b.stmts)) zeros) in
    let same_long : length stmts ≡ length b.stmts = ap length c.as_slice-stmts.ensures in
    let made_long : length marks ≡ length stmts + 1 =
    ap length made ∙ length-marked (flat_map catch_places b.catches) _ ∙ length-marked (flat_map targets_of b.stmts) _
    ∙ length-replicate (length stmts + 1) 0 in
    let back : take c.in_ok-labels.labels.len (labels ++ drop (length labels) c.in_ok-labels.labels.items) ≡ labels =
    take_at labels _ c.in_ok-labels.labels.len (omega (arith, c.in_ok-labels.labels.ok.0)) in
    rw back (numbered b (length stmts + 1) marks labels (omega arith) made (omega arith) c.add_up.ensures)
