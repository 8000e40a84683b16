use Rattle.std.proofs.Common.{◌<◌, Global, Option, Vec, length, refl, ap, arith}
use Rattle.class_table.specs.declared.members.Place.{Place}
use Rattle.class_table.proofs.Along.{either_given, either_kept}
use Rattle.class_table.proofs.resolve.either.Goals as goal
use Rattle.class_table.proofs.resolve.either.Goals.{then-is_none, else-is_none}

pub loop-at-preserved : goal.loop-at-preserved
loop-at-preserved c =
    let first = c.args.first.items in
    let others = c.args.others.now in
    let i = c.loop-at.at in
    let old = c.loop-at.places.items in
    let new = c.if-is_none.places.items in
    let within : i < length old = (let test = c.loop-at-test.true in let all = c.len-at-end.ensures in let long = c.args.first.ok.0 in let count = c.loop-at.invariant.count in omega (arith, test, all, long, count)) in
    elim c.if-is_none.branch [
      | then-is_none w ↦ either_given first others i old new c.index.result.now within c.index.ensures c.loop-at.invariant _ w.if-is_none.ensures refl (ap (λ (v : Vec (Option Place) Global). v.items) w.places-is)
      | else-is_none w ↦ either_kept first others i old new c.index.result.now within c.index.ensures c.loop-at.invariant w.if-is_none.ensures (ap (λ (v : Vec (Option Place) Global). v.items) w.places-is)
    ]
