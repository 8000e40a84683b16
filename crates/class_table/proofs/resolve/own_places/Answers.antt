use Rattle.std.proofs.Common.{refl, arith}
use Rattle.class_table.specs.Members.{method_names}
use Rattle.class_table.proofs.Asked.{asked_all, asked_more, asked_none}
use Rattle.class_table.proofs.Holding.{has_owner, owner_there, whole_index}
use Rattle.class_table.proofs.resolve.own_places.Goals as goal

pub loop-method-init : goal.loop-method-init
loop-method-init c = asked_none c.args.classes.now c.args.sig.now c.args.members.now.holders.owners.items c.args.count c.in_ok-places.places.items c.requires.count c.in_ok-places.ensures

pub index-class-requires : goal.index-class-requires
index-class-requires c =
    let cs = c.args.classes.now in
    let holders = c.args.members.now.holders in
    let are = c.requires.members.holders in
    let exact = c.places-method-items.ensures.exact (method_names cs) (whole_index cs holders are) in
    let below = has_owner cs holders are c.args.sig.now.name c.places-method-items.result.now exact c.loop-method.method-index c.loop-method-test.true in
    let long = holders.owners.ok.0 in
    omega (arith, below, long)

pub callable-requires-clause-number : goal.callable-requires-clause-number
callable-requires-clause-number c =
    let cs = c.args.classes.now in
    let holders = c.args.members.now.holders in
    let are = c.requires.members.holders in
    let exact = c.places-method-items.ensures.exact (method_names cs) (whole_index cs holders are) in
    (owner_there cs holders are c.requires.table.names c.args.sig.now.name c.places-method-items.result.now exact c.loop-method.method-index c.index-class.result.now c.loop-method-test.true c.index-class.ensures).1

pub index_mut-requires : goal.index_mut-requires
index_mut-requires c =
    let cs = c.args.classes.now in
    let holders = c.args.members.now.holders in
    let are = c.requires.members.holders in
    let exact = c.places-method-items.ensures.exact (method_names cs) (whole_index cs holders are) in
    let owner = owner_there cs holders are c.requires.table.names c.args.sig.now.name c.places-method-items.result.now exact c.loop-method.method-index c.index-class.result.now c.loop-method-test.true c.index-class.ensures in
    let within = owner.1 in
    let count = c.loop-method.invariant.count in
    let long = c.loop-method.places.ok.0 in
    omega (arith, within, count, long)

pub loop-method-preserved : goal.loop-method-preserved
loop-method-preserved c =
    let cs = c.args.classes.now in
    let holders = c.args.members.now.holders in
    let are = c.requires.members.holders in
    let methods = c.places-method-items.result.now in
    let i = c.loop-method.method-index in
    let class = c.index-class.result.now in
    let exact = c.places-method-items.ensures.exact (method_names cs) (whole_index cs holders are) in
    let owner = owner_there cs holders are c.requires.table.names c.args.sig.now.name methods exact i class c.loop-method-test.true c.index-class.ensures in
    let within = owner.1 in
    let count = c.loop-method.invariant.count in
    asked_more cs c.args.sig.now holders.owners.items methods i class c.callable.result c.loop-method.places.items _ c.loop-method-test.true owner.0 (omega (arith, within, count)) c.callable.ensures refl c.loop-method.invariant

pub returns : goal.returns
returns c =
    let cs = c.args.classes.now in
    let holders = c.args.members.now.holders in
    let are = c.requires.members.holders in
    let exact = c.places-method-items.ensures.exact (method_names cs) (whole_index cs holders are) in
    asked_all cs c.requires.formed c.requires.table.names holders are c.args.sig.now c.places-method-items.result.now exact c.loop-method.method-index c.loop-method.places.items c.loop-method-test.false c.loop-method.invariant
