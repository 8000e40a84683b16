use Rattle.std.proofs.Common.{◌≡◌, List, length, refl, sym, subst, arith}
use Rattle.clean_base.specs.Lists.{At}
use Rattle.jimple_tree.specs.declared.tree.Method.{Method}
use Rattle.class_table.proofs.Numbers.{before, before_within, numbers_more, places_more}
use Rattle.class_table.proofs.members.number_methods.Goals as goal

pub add_method-requires : goal.add_method-requires
add_method-requires c =
    let count = c.loop-method.invariant.places.counted in
    let within = before_within c.args.classes.now c.args.at c.args.class.now c.loop-method.method c.requires.class in
    omega (arith, count, within, c.requires.few)

pub loop-method-preserved : goal.loop-method-preserved
loop-method-preserved c =
    let cs = c.args.classes.now in
    let class = c.args.class.now in
    let k = c.loop-method.method in
    let m = c.here-item.result in
    let count : length c.loop-method.places.items ≡ before cs c.args.at class k = c.loop-method.invariant.places.counted in
    let here : At class.methods k m = subst (λ (ms : List Method). At ms k m) c.as_slice-here-items.ensures ((omega arith), sym c.here-item.is) in
    record {
      numbers = numbers_more cs c.args.at class k m (length c.loop-method.places.items) c.loop-method.numbers.items c.add_method.new.numbers.items c.requires.class here count c.loop-method.invariant.numbers c.in_ok-add_method.ensures.numbers;
      places = places_more cs c.args.at class k m _ c.loop-method.places.items c.add_method.new.places.items c.requires.class here refl c.loop-method.invariant.places c.in_ok-add_method.ensures.places;
    }
