use Rattle.std.proofs.Common.{◌≡◌, Global, List, Option, Vec, length, get_or, [], ap, ◌∙◌, arith}
use Rattle.std.proofs.lemmas.List.{get_or_read}
use Rattle.clean_base.specs.Lists.{At}
use Rattle.reach_rows.specs.Graphs.{row}
use Rattle.reach_rows.proofs.Paths.{row_within}
use Rattle.class_table.specs.Alongs.{taken}
use Rattle.class_table.specs.declared.members.Place.{Place}
use Rattle.class_table.proofs.Along.{pass_start, pass_given, pass_kept, pass_ends}
use Rattle.class_table.proofs.Marked.{at_read, has_row}
use Rattle.class_table.proofs.firsts.along.Goals as goal
use Rattle.class_table.proofs.firsts.along.Goals.{then-is_none, else-is_none}

pub index-requires : goal.index-requires
index-requires c =
    let order = c.args.order.now in
    let i = c.loop-node.node-index in
    let below = has_row c.args.rows.now order c.requires.graph c.requires.order 0 i (get_or order i 0) (at_read order i c.loop-node-test.true) in
    let count = c.loop-node.invariant.count in
    let long = c.loop-node.found.ok.0 in
    omega (arith, below, count, long)

pub bounds-rows-at : goal.bounds-rows-at
bounds-rows-at c =
    let order = c.args.order.now in
    let i = c.loop-node.node-index in
    has_row c.args.rows.now order c.requires.graph c.requires.order 0 i (get_or order i 0) (at_read order i c.loop-node-test.true)

pub first_of-requires : goal.first_of-requires
first_of-requires c =
    let rows = c.args.rows.now in
    let order = c.args.order.now in
    let i = c.loop-node.node-index in
    let x = get_or order i 0 in
    let below = has_row rows order c.requires.graph c.requires.order 0 i x (at_read order i c.loop-node-test.true) in
    let same : c.as_slice-then-is_none.result.now ≡ row rows x = c.as_slice-then-is_none.ensures ∙ get_or_read rows x c.index-rows-at.result below c.index-rows-at.is [] in
    row_within rows x (length c.as_slice.result.now) c.as_slice-then-is_none.result.now c.requires.graph (ap length c.as_slice.ensures.value ∙ c.loop-node.invariant.count) same

pub index_mut-requires : goal.index_mut-requires
index_mut-requires c =
    let order = c.args.order.now in
    let i = c.loop-node.node-index in
    let below = has_row c.args.rows.now order c.requires.graph c.requires.order 0 i (get_or order i 0) (at_read order i c.loop-node-test.true) in
    let count = c.loop-node.invariant.count in
    let long = c.loop-node.found.ok.0 in
    omega (arith, below, count, long)

pub loop-node-init : goal.loop-node-init
loop-node-init c = pass_start c.args.rows.now c.args.order.now c.requires.graph c.requires.order c.args.places.now c.in_ok-found.found.items c.in_ok-found.ensures.items c.requires.places

pub loop-node-preserved : goal.loop-node-preserved
loop-node-preserved c =
    let rows = c.args.rows.now in
    let order = c.args.order.now in
    let things = c.args.places.now in
    let i = c.loop-node.node-index in
    let x = get_or order i 0 in
    let at : At order i x = at_read order i c.loop-node-test.true in
    let below = has_row rows order c.requires.graph c.requires.order 0 i x at in
    let old = c.loop-node.found.items in
    let new = c.if-is_none.found.items in
    elim c.if-is_none.branch [
      | then-is_none w ↦
          let same : w.as_slice-then-is_none.result.now ≡ row rows x = w.as_slice-then-is_none.ensures ∙ get_or_read rows x w.index-rows-at.result below w.index-rows-at.is [] in
          let met : w.first_of.result ≡ taken old (row rows x) =
          w.first_of.ensures ∙ ap (λ (l : List (Option Place)). taken l w.as_slice-then-is_none.result.now) w.as_slice.ensures.value ∙ ap (taken old) same in
          pass_given rows order c.requires.graph c.requires.order things i x old new c.index.result.now w.first_of.result at below c.index.ensures w.if-is_none.ensures met
          (ap (λ (v : Vec (Option Place) Global). v.items) w.found-is) c.loop-node.invariant
      | else-is_none w ↦
          pass_kept rows order c.requires.graph c.requires.order things i x old new c.index.result.now at below c.index.ensures w.if-is_none.ensures (ap (λ (v : Vec (Option Place) Global). v.items) w.found-is)
          c.loop-node.invariant
    ]

pub returns : goal.returns
returns c = pass_ends c.args.rows.now c.args.order.now c.requires.graph c.requires.order c.args.places.now c.loop-node.node-index c.loop-node.found.items (omega (arith, c.loop-node-test.false)) c.loop-node.invariant
