use Rattle.std.proofs.Common.{arith, ◌≡◌, ◌∙◌, refl, ap, sym, ◌++◌, length, get_or}
use Rattle.jimple_tree.specs.Labels.{label_number}
use Rattle.jimple_tree.proofs.Lines.{named_first, lines_more, last_line, wrote_line}
use Rattle.jimple_tree.proofs.write.write_lines.Goals as goal

pub loop-place-init : goal.loop-place-init
loop-place-init c = record { number = named_first c.args.body.now; lines = refl }

pub loop-place-preserved : goal.loop-place-preserved
loop-place-preserved c =
    let b = c.args.body.now in
    let place = c.loop-place.place in
    let same : c.as_slice-stmts.result.now ≡ b.stmts = c.as_slice-stmts.ensures in
    let long : length c.as_slice-stmts.result.now ≡ length b.stmts = ap length same in
    let number : get_or c.args.labels.now place 0 ≡ label_number b place = c.requires.numbered.number place (omega arith) in
    let more = lines_more b b.stmts place c.index-stmts-place.result (omega arith)
    (c.index-stmts-place.is ∙ ap (λ s. get_or s place c.index-stmts-place.result) same) in
    record {
      number = number;
      lines =
          wrote_line b c.loop-place.before (get_or c.args.labels.now place 0) place c.index-stmts-place.result c.loop-place.out.items
          c.write_label_line.new.out.items c.write_stmt_line.new.out.items _ _
          c.loop-place.invariant.number number c.in_ok-write_label_line.ensures c.in_ok-write_stmt_line.ensures
          (sym (ap (λ t. c.loop-place.out.items ++ t) more) ∙ c.loop-place.invariant.lines);
    }

pub returns : goal.returns
returns c =
    let b = c.args.body.now in
    let place = c.loop-place.place in
    let same : c.as_slice-stmts.result.now ≡ b.stmts = c.as_slice-stmts.ensures in
    let long : length c.as_slice-stmts.result.now ≡ length b.stmts = ap length same in
    let at_end : place ≡ length c.as_slice-stmts.result.now = omega arith in
    let number : get_or c.args.labels.now (length c.as_slice-stmts.result.now) 0 ≡ label_number b place =
    c.requires.numbered.number (length c.as_slice-stmts.result.now) (omega arith) ∙ ap (label_number b) (sym at_end) in
    last_line b c.loop-place.before (get_or c.args.labels.now (length c.as_slice-stmts.result.now) 0) place c.loop-place.out.items
    c.write_label_line-2.new.out.items _ c.loop-place.invariant.number number (omega arith)
    c.loop-place.invariant.lines c.write_label_line-2.result c.write_label_line-2.ensures
