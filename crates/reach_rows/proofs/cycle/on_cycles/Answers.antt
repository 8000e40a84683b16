use Rattle.std.proofs.Common.{◌≡◌, ◌<◌, ◌-◌, ◌∙◌, ◌↔◌, [], ℕ, List, IsTrue, true, length, get_or, sym, ap, subst, refl, arith}
use Rattle.std.specs.Prelude.{Contains}
use Rattle.std.proofs.lemmas.List.{get_or_default, get_or_read, length-set}
use Rattle.clean_base.specs.Lists.{At}
use Rattle.reach_rows.specs.Graphs.{row, IsGraph}
use Rattle.reach_rows.specs.Cycles.{IsSpread, IsWhole}
use Rattle.reach_rows.proofs.Backwards.{back_graph}
use Rattle.reach_rows.proofs.Taken.{taken_within, taken_more, told_one, told_more, all_told}
use Rattle.reach_rows.proofs.cycle.on_cycles.Goals as goal

pub spread-requires-clause-graph : goal.spread-requires-clause-graph
spread-requires-clause-graph c = subst (λ (bs : List (List ℕ)). IsGraph bs) (sym c.as_slice.ensures.value) (back_graph c.args.rows.now c.in_ok-backs.backs.items c.in_ok-backs.ensures)

pub spread-requires-clause-node : goal.spread-requires-clause-node
spread-requires-clause-node c =
    let order = c.args.order.now in
    let passed = c.loop-passed.passed in
    let x = get_or order (length order - 1 - passed) 0 in
    let below : x < length c.args.rows.now = taken_within c.args.rows.now c.in_ok-backs.backs.items c.requires.graph c.in_ok-backs.ensures order c.requires.order passed x c.loop-passed-test.true (get_or_default order (length order - 1 - passed) 0 x (omega (arith, c.loop-passed-test.true))) in
    let long : length c.as_slice.result.now ≡ length c.in_ok-backs.backs.items = ap length c.as_slice.ensures.value in
    let count : length c.in_ok-backs.backs.items ≡ length c.args.rows.now = c.in_ok-backs.ensures.count in
    omega arith

pub loop-passed-preserved : goal.loop-passed-preserved
loop-passed-preserved c =
    let rows = c.args.rows.now in
    let backs = c.in_ok-backs.backs.items in
    let back = c.in_ok-backs.ensures in
    let order = c.args.order.now in
    let finish = c.requires.order in
    let graph = c.requires.graph in
    let passed = c.loop-passed.passed in
    let within = c.loop-passed-test.true in
    let x = get_or order (length order - 1 - passed) 0 in
    let is : x ≡ get_or order (length order - 1 - passed) x = get_or_default order (length order - 1 - passed) 0 x (omega (arith, within)) in
    let was = c.loop-passed.invariant in
    let old = c.loop-passed.flood.seen.items in
    let new = c.spread.new.self in
    let told = c.loop-passed.told.items in
    let r = c.sees_any.result in
    let spread = subst (λ (bs : List (List ℕ)). IsSpread bs x old new.seen.items) c.as_slice.ensures.value c.in_ok-spread.ensures.spread in
    let whole = subst (λ (bs : List (List ℕ)). IsWhole bs new.seen.items new.waiting.items) c.as_slice.ensures.value c.in_ok-spread.ensures.whole in
    let taken = taken_more rows backs graph back order finish passed x within is old new.seen.items was.taken spread in
    let below : x < length rows = taken_within rows backs graph back order finish passed x within is in
    let same : c.as_slice-in-loop-passed.result.now ≡ row rows x = c.as_slice-in-loop-passed.ensures ∙ get_or_read rows x c.index-rows-node.result below c.index-rows-node.is [] in
    let tells = subst (λ (ns : List ℕ). IsTrue r ↔ ((b : ℕ) × Contains ns b × At new.seen.items b true)) same c.sees_any.ensures in
    let one = told_one rows backs graph back order finish passed x within is new.seen.items new.waiting.items r taken whole tells in
    let count : length told ≡ length rows = was.count in
    record {
      whole = whole;
      taken = taken;
      count = length-set told x r ∙ count;
      told = told_more rows backs graph back order finish passed x within is told _ r (omega arith) one was.told refl;
    }

pub returns : goal.returns
returns c = all_told c.args.rows.now c.args.order.now c.requires.order c.loop-passed.passed c.loop-passed.told.items (omega (arith, c.loop-passed-test.false)) c.loop-passed.invariant.count c.loop-passed.invariant.told
