use Rattle.std.proofs.Common.{◌≡◌, ◌<◌, ◌-◌, Bool, Global, Vec, true, length, get_or, [], ap, sym, ◌∙◌, arith}
use Rattle.std.proofs.lemmas.List.{get_or_default, get_or_read, length-set, length-replicate}
use Rattle.clean_base.specs.Lists.{At}
use Rattle.reach_rows.specs.Graphs.{row}
use Rattle.reach_rows.proofs.Paths.{row_within}
use Rattle.reach_rows.proofs.Places.{at_set_same}
use Rattle.class_table.proofs.Marked.{all_back, at_read, has_row, marked_only, from_start, closed_none, spread_on, spread_past, above_all}
use Rattle.class_table.proofs.marks.above.Goals as goal
use Rattle.class_table.proofs.marks.above.Goals.{then-index, else-index}

pub loop-passed-init : goal.loop-passed-init
loop-passed-init c =
    let rows = c.args.rows.now in
    let order = c.args.order.now in
    let node = c.args.node in
    let marks = c.in_ok-marks.marks.items in
    let count : length marks ≡ length rows = ap length c.in_ok-marks.ensures ∙ length-replicate (length rows) _ in
    let below = c.requires.node in
    record {
      count = length-set marks node true ∙ count;
      start = at_set_same marks node true (omega (arith, count, below));
      from = from_start rows order c.requires.graph c.requires.order node _ (marked_only (length rows) node marks c.in_ok-marks.ensures);
      closed = closed_none rows order c.requires.graph c.requires.order node _;
    }

pub index-requires : goal.index-requires
index-requires c =
    let order = c.args.order.now in
    let test = c.loop-passed-test.true in
    let i = length order - 1 - c.loop-passed.passed in
    let below = has_row c.args.rows.now order c.requires.graph c.requires.order c.args.node i (get_or order i 0) (at_read order i (omega (arith, test))) in
    let count = c.loop-passed.invariant.count in
    let long = c.loop-passed.marks.ok.0 in
    omega (arith, below, count, long)

pub bounds-rows-next : goal.bounds-rows-next
bounds-rows-next c =
    let order = c.args.order.now in
    let test = c.loop-passed-test.true in
    let i = length order - 1 - c.loop-passed.passed in
    has_row c.args.rows.now order c.requires.graph c.requires.order c.args.node i (get_or order i 0) (at_read order i (omega (arith, test)))

pub mark_all-requires : goal.mark_all-requires
mark_all-requires c =
    let rows = c.args.rows.now in
    let order = c.args.order.now in
    let test = c.loop-passed-test.true in
    let i = length order - 1 - c.loop-passed.passed in
    let x = get_or order i 0 in
    let below = has_row rows order c.requires.graph c.requires.order c.args.node i x (at_read order i (omega (arith, test))) in
    let same : c.as_slice.result.now ≡ row rows x = c.as_slice.ensures ∙ get_or_read rows x c.index-rows-next.result below c.index-rows-next.is [] in
    row_within rows x (length c.as_mut_slice.result.now) c.as_slice.result.now c.requires.graph (ap length c.as_mut_slice.ensures.value ∙ c.loop-passed.invariant.count) same

pub loop-passed-preserved : goal.loop-passed-preserved
loop-passed-preserved c =
    let rows = c.args.rows.now in
    let order = c.args.order.now in
    let test = c.loop-passed-test.true in
    let i = length order - 1 - c.loop-passed.passed in
    let x = get_or order i 0 in
    let at : At order i x = at_read order i (omega (arith, test)) in
    let below = has_row rows order c.requires.graph c.requires.order c.args.node i x at in
    let old = c.loop-passed.marks.items in
    let new = c.if-index.marks.items in
    let within : x < length old = let count = c.loop-passed.invariant.count in omega (arith, below, count) in
    elim c.if-index.branch [
      | then-index w ↦
          spread_on rows order c.requires.graph c.requires.order c.args.node c.loop-passed.passed x old new test at c.loop-passed.invariant w.as_slice.result.now w.as_mut_slice.result.now w.mark_all.new.marks
          (within, sym (c.index.ensures ∙ get_or_default old x _ true within) ∙ w.if-index.true)
          (w.as_slice.ensures ∙ get_or_read rows x w.index-rows-next.result below w.index-rows-next.is []) w.as_mut_slice.ensures.value w.mark_all.ensures
          (ap (λ (v : Vec Bool Global). v.items) w.marks-is ∙ all_back c.loop-passed.marks.len w.mark_all.new.marks _ (w.mark_all.ensures.count ∙ ap length w.as_mut_slice.ensures.value ∙ sym c.loop-passed.marks.ok.0))
      | else-index w ↦
          spread_past rows order c.requires.graph c.requires.order c.args.node c.loop-passed.passed x old new test at c.loop-passed.invariant c.index.result.now c.index.ensures w.if-index.false (ap (λ (v : Vec Bool Global). v.items) w.marks-is)
    ]

pub returns : goal.returns
returns c =
    let was = c.loop-passed.invariant in
    above_all c.args.rows.now c.args.order.now c.requires.graph c.requires.order c.args.node c.loop-passed.passed c.loop-passed.marks.items (omega (arith, c.loop-passed-test.false)) was.count was.start was.from was.closed
