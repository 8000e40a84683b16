use Rattle.std.proofs.Common.{sym, arith}
use Rattle.clean_base.specs.Lists.{At}
use Rattle.class_table.proofs.Exact.{owner_of}
use Rattle.class_table.proofs.members.owner.Goals as goal

pub overflow_cast-result : goal.overflow_cast-result
overflow_cast-result c =
    let count = c.requires.members.places.counted in
    let place = c.index.result.now in
    let here : At c.args.members.now.places.items c.args.m.0 place = ((omega (arith, count, c.requires.number)), sym c.index.ensures) in
    let at = owner_of c.args.classes.now c.requires.table.names c.args.members.now.places.items c.args.m place c.requires.members.places here in
    let below = at.3.0 in
    omega (arith, below, c.requires.table.few)

pub returns : goal.returns
returns c =
    let count = c.requires.members.places.counted in
    let place = c.index.result.now in
    let here : At c.args.members.now.places.items c.args.m.0 place = ((omega (arith, count, c.requires.number)), sym c.index.ensures) in
    owner_of c.args.classes.now c.requires.table.names c.args.members.now.places.items c.args.m place c.requires.members.places here
