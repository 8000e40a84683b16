use Rattle.std.proofs.Common.{List, Option, subst}
use Rattle.class_table.specs.Alongs.{AreAlong, AreNext}
use Rattle.class_table.specs.Firsts.{AreEither}
use Rattle.class_table.specs.Resolving.{superclass, interfaces}
use Rattle.class_table.specs.declared.members.Place.{Place}
use Rattle.class_table.proofs.Along.{along_read, next_read}
use Rattle.class_table.proofs.Linked.{read_graph, read_order, superclass_within, interfaces_within}
use Rattle.class_table.proofs.Searched.{all_found}
use Rattle.class_table.proofs.resolve.found.Goals as goal

pub along-requires-clause-graph : goal.along-requires-clause-graph
along-requires-clause-graph c = read_graph c.args.classes.now superclass c.args.links.now.superclasses.items c.as_slice-superclasses.result.now c.requires.links.superclasses c.as_slice-superclasses.ensures.value

pub along-requires-clause-order : goal.along-requires-clause-order
along-requires-clause-order c =
    let links = c.args.links.now in
    read_order c.args.classes.now superclass links.headings.items links.superclasses.items c.as_slice-superclasses.result.now links.order.items c.as_slice-order.result.now c.requires.links.headings c.requires.links.superclasses
    superclass_within c.requires.links.order c.as_slice-superclasses.ensures.value c.as_slice-order.ensures.value

pub along-requires-2-clause-graph : goal.along-requires-2-clause-graph
along-requires-2-clause-graph c = read_graph c.args.classes.now interfaces c.args.links.now.interfaces.items c.as_slice-interfaces.result.now c.requires.links.interfaces c.as_slice-interfaces.ensures.value

pub along-requires-2-clause-order : goal.along-requires-2-clause-order
along-requires-2-clause-order c =
    let links = c.args.links.now in
    read_order c.args.classes.now interfaces links.headings.items links.interfaces.items c.as_slice-interfaces.result.now links.order.items c.as_slice-order.result.now c.requires.links.headings c.requires.links.interfaces
    interfaces_within c.requires.links.order c.as_slice-interfaces.ensures.value c.as_slice-order.ensures.value

pub next-requires-clause-graph : goal.next-requires-clause-graph
next-requires-clause-graph c = read_graph c.args.classes.now interfaces c.args.links.now.interfaces.items c.as_slice-interfaces.result.now c.requires.links.interfaces c.as_slice-interfaces.ensures.value

pub along-requires-3-clause-graph : goal.along-requires-3-clause-graph
along-requires-3-clause-graph c = read_graph c.args.classes.now superclass c.args.links.now.superclasses.items c.as_slice-superclasses.result.now c.requires.links.superclasses c.as_slice-superclasses.ensures.value

pub along-requires-3-clause-order : goal.along-requires-3-clause-order
along-requires-3-clause-order c =
    let links = c.args.links.now in
    read_order c.args.classes.now superclass links.headings.items links.superclasses.items c.as_slice-superclasses.result.now links.order.items c.as_slice-order.result.now c.requires.links.headings c.requires.links.superclasses
    superclass_within c.requires.links.order c.as_slice-superclasses.ensures.value c.as_slice-order.ensures.value

pub returns : goal.returns
returns c =
    let cs = c.args.classes.now in
    let supers = c.args.links.now.superclasses.items in
    let inters = c.args.links.now.interfaces.items in
    let own = c.in_ok-own.own.items in
    let up = c.in_ok-up.up.items in
    let deep = c.in_ok-deep.deep.items in
    let across = c.in_ok-across.across.items in
    let aside = c.in_ok-aside.aside.items in
    let chain = c.as_slice-superclasses.result.now in
    let links = c.as_slice-interfaces.result.now in
    let first : AreAlong supers own up = along_read supers chain own c.as_slice.result.now up c.as_slice-superclasses.ensures.value c.as_slice.ensures.value c.in_ok-up.ensures in
    let below : AreAlong inters own deep = along_read inters links own c.as_slice-2.result.now deep c.as_slice-interfaces.ensures.value c.as_slice-2.ensures.value c.in_ok-deep.ensures in
    let next : AreNext inters deep across = next_read inters links deep c.as_slice-3.result.now across c.as_slice-interfaces.ensures.value c.as_slice-3.ensures.value c.in_ok-across.ensures in
    let others : AreAlong supers across aside = along_read supers chain across c.as_slice-4.result.now aside c.as_slice-superclasses.ensures.value c.as_slice-4.ensures.value c.in_ok-aside.ensures in
    all_found cs c.args.sig.now supers inters c.requires.links.superclasses c.requires.links.interfaces own up deep across aside c.in_ok-own.ensures first below next others c.either.result.items
    (subst (λ (l : List (Option Place)). AreEither up l c.either.result.items) c.as_slice-5.ensures.value c.either.ensures)
