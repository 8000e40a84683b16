use Rattle.std.proofs.Common.{◌↔◌, Bool, true, List, sym, subst}
use Rattle.clean_base.specs.Lists.{At}
use Rattle.clean_base.specs.declared.ids.ClassId.{ClassId}
use Rattle.class_table.specs.Hierarchy.{IsSubtype}
use Rattle.call_graph.proofs.Saying.{known_kind, unknown_kind, not_found}
use Rattle.call_graph.proofs.calls.kind_of.Goals as goal

pub returns-in_default-clause-source : goal.returns-in_default-clause-source
returns-in_default-clause-source c = unknown_kind c.args.table.now c.args.lists.now c.args.sig.now _ _ (not_found c.args.table.now c.args.sig.now.class c.find.result c.in_default.is c.find.ensures.found) c.kind-own.ensures.source

pub returns-in_default-clause-sink : goal.returns-in_default-clause-sink
returns-in_default-clause-sink c = unknown_kind c.args.table.now c.args.lists.now c.args.sig.now _ _ (not_found c.args.table.now c.args.sig.now.class c.find.result c.in_default.is c.find.ensures.found) c.kind-own.ensures.sink

pub supertypes-requires : goal.supertypes-requires
supertypes-requires c = ((c.find.ensures.found c.in-Some.class).0 c.in-Some.is).0

pub returns-clause-source : goal.returns-clause-source
returns-clause-source c =
    let cs = c.args.table.now in
    let class = c.in-Some.class in
    known_kind cs c.args.lists.now c.args.sig.now _ class _ _ c.as_slice.result.now ((c.find.ensures.found class).0 c.in-Some.is)
    (subst (λ (ms : List Bool). (name : ClassId) → At ms name.0 true ↔ IsSubtype cs class name) (sym c.as_slice.ensures.value) c.in_ok-marks.ensures.exact) c.kind-own.ensures.source c.with_classes.ensures.source

pub returns-clause-sink : goal.returns-clause-sink
returns-clause-sink c =
    let cs = c.args.table.now in
    let class = c.in-Some.class in
    known_kind cs c.args.lists.now c.args.sig.now _ class _ _ c.as_slice.result.now ((c.find.ensures.found class).0 c.in-Some.is)
    (subst (λ (ms : List Bool). (name : ClassId) → At ms name.0 true ↔ IsSubtype cs class name) (sym c.as_slice.ensures.value) c.in_ok-marks.ensures.exact) c.kind-own.ensures.sink c.with_classes.ensures.sink
