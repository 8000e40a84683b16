use Rattle.std.proofs.Common.{arith, ◌∙◌, []}
use Rattle.jimple_grammar.specs.declared.raw.RawItem.{RawItem}
use Rattle.jimple_names.specs.Resolving.{seen}
use Rattle.jimple_names.proofs.Walks.{later_more, place_count, place_few}
use Rattle.jimple_names.proofs.bodies.later_labels.Goals as goal

pub loop-item-preserved : goal.loop-item-preserved
loop-item-preserved c =
    let x : RawItem = c.item-item.result in
    let i = c.loop-item.item-index in
    let less = c.loop-item-test.true in
    let count = c.loop-item.invariant.count in
    let next = c.in_ok-place.ensures.place in
    record {
      count = next ∙ place_count c.args.rest.now i x less c.item-item.is c.loop-item.place count;
      labels = later_more c.args.bytes.now (seen [] [] 0) c.args.rest.now i x less c.item-item.is c.loop-item.place count c.args.labels.now.items c.loop-item.labels.items c.add_label.new.labels.items c.loop-item.invariant.labels c.in_ok-place.ensures.labels;
      few = let old = c.loop-item.invariant.few in let one = place_few c.loop-item.place x in omega (arith, next, old, one);
    }
