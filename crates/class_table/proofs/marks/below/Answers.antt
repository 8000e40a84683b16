use Rattle.std.proofs.Common.{◌≡◌, ◌↔◌, ◌⊎◌, ℕ, true, IsTrue, length, get_or, [], ap, refl, ◌∙◌, arith}
use Rattle.std.specs.Prelude.{Contains}
use Rattle.std.proofs.lemmas.List.{get_or_read, length-set}
use Rattle.std.proofs.lemmas.Bool.Decides.{Decides-eqb}
use Rattle.clean_base.specs.Lists.{At}
use Rattle.reach_rows.specs.Graphs.{row}
use Rattle.reach_rows.proofs.Paths.{row_within}
use Rattle.class_table.proofs.Marked.{at_read, has_row, marked_more, marked_all, tells_first, tells_other, any_in}
use Rattle.class_table.proofs.marks.below.Goals as goal
use Rattle.class_table.proofs.marks.below.Goals.{then-next-node, else-next-node}

pub bounds-rows-next : goal.bounds-rows-next
bounds-rows-next c =
    let order = c.args.order.now in
    let i = c.loop-next.next-index in
    has_row c.args.rows.now order c.requires.graph c.requires.order c.args.node i (get_or order i 0) (at_read order i c.loop-next-test.true)

pub any_marked-requires : goal.any_marked-requires
any_marked-requires c =
    let rows = c.args.rows.now in
    let order = c.args.order.now in
    let i = c.loop-next.next-index in
    let x = get_or order i 0 in
    let below = has_row rows order c.requires.graph c.requires.order c.args.node i x (at_read order i c.loop-next-test.true) in
    let same : c.as_slice-nexts.result.now ≡ row rows x = c.as_slice-nexts.ensures ∙ get_or_read rows x c.index-rows-next.result below c.index-rows-next.is [] in
    row_within rows x (length c.as_slice.result.now) c.as_slice-nexts.result.now c.requires.graph (ap length c.as_slice.ensures.value ∙ c.loop-next.invariant.count) same

pub index_mut-requires : goal.index_mut-requires
index_mut-requires c =
    let order = c.args.order.now in
    let i = c.loop-next.next-index in
    let below = has_row c.args.rows.now order c.requires.graph c.requires.order c.args.node i (get_or order i 0) (at_read order i c.loop-next-test.true) in
    let count = c.loop-next.invariant.count in
    let long = c.loop-next.marks.ok.0 in
    omega (arith, below, count, long)

pub loop-next-preserved : goal.loop-next-preserved
loop-next-preserved c =
    let rows = c.args.rows.now in
    let order = c.args.order.now in
    let node = c.args.node in
    let i = c.loop-next.next-index in
    let x = get_or order i 0 in
    let at : At order i x = at_read order i c.loop-next-test.true in
    let old = c.loop-next.marks.items in
    let r = c.if-next-node.value in
    let below = has_row rows order c.requires.graph c.requires.order node i x at in
    let same : c.as_slice-nexts.result.now ≡ row rows x = c.as_slice-nexts.ensures ∙ get_or_read rows x c.index-rows-next.result below c.index-rows-next.is [] in
    let tells : IsTrue r ↔ ((x ≡ node) ⊎ ((b : ℕ) × Contains (row rows x) b × At old b true)) = elim c.if-next-node.branch [
      | then-next-node w ↦ tells_first r (w.value-is ∙ (Decides-eqb x node).1 w.if-next-node.true) w.if-next-node.true
      | else-next-node w ↦ tells_other r w.any_marked.result w.value-is w.if-next-node.false (any_in (row rows x) w.as_slice.result.now old w.any_marked.result same w.as_slice.ensures.value w.any_marked.ensures)
    ] in
    record {
      count = length-set old x r ∙ c.loop-next.invariant.count;
      marked = marked_more rows order c.requires.graph c.requires.order node i x old _ r at c.loop-next.invariant.count refl tells c.loop-next.invariant.marked;
    }

pub returns : goal.returns
returns c =
    marked_all c.args.rows.now c.args.order.now c.requires.graph c.requires.order c.args.node c.loop-next.next-index c.loop-next.marks.items (omega (arith, c.loop-next-test.false)) c.loop-next.invariant.count
    c.loop-next.invariant.marked
