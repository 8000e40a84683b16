use Rattle.std.proofs.Common.{◌↔◌, Bool, true, List, Contains, sym, subst, arith}
use Rattle.std.proofs.lemmas.Result.{IfOk-weaker}
use Rattle.clean_base.specs.Lists.{At}
use Rattle.clean_base.specs.declared.ids.ClassId.{ClassId}
use Rattle.clean_base.specs.declared.ids.MethodId.{MethodId}
use Rattle.class_table.specs.Hierarchy.{IsSubtype}
use Rattle.call_graph.proofs.Saying.{not_found}
use Rattle.call_graph.proofs.Resolved.{on_class, on_subtypes, unknown_target}
use Rattle.call_graph.proofs.calls.targets_of.Goals as goal

pub returns-in_default-clause-exact : goal.returns-in_default-clause-exact
returns-in_default-clause-exact c n = (
  λ has. let below = (subst (λ (ms : List MethodId). Contains ms n) c.new.ensures.items has).1 in absurd (omega (arith, below)),
  λ t. absurd (unknown_target c.args.table.now c.args.kind c.args.sig.now n (not_found c.args.table.now c.args.sig.now.class c.find.result c.in_default.is c.find.ensures.found) t),
)

pub subtypes-requires : goal.subtypes-requires
subtypes-requires c = ((c.find.ensures.found c.in-Some.class).0 c.in-Some.is).0

pub returns-in-Static-clause-exact : goal.returns-in-Static-clause-exact
returns-in-Static-clause-exact c =
    let cs = c.args.table.now in
    let class = c.in-Some.class in
    IfOk-weaker c.resolved_on.result _ _ (λ v exact n.
    let one = exact n in
    let calls = on_class cs c.args.kind class c.args.sig.now n ((c.find.ensures.found class).0 c.in-Some.is) c.in-Static.is in
    ((λ has. calls.0 (one.0 has)), (λ t. one.1 (calls.1 t)))) c.resolved_on.ensures.exact

pub returns-in_ok-found-in-Virtual-clause-exact : goal.returns-in_ok-found-in-Virtual-clause-exact
returns-in_ok-found-in-Virtual-clause-exact c n =
    let cs = c.args.table.now in
    let class = c.in-Some.class in
    let same = c.in_order.ensures.same n in
    let exact = c.in_ok-found-in-Virtual.ensures n in
    let calls = on_subtypes cs c.args.kind class c.args.sig.now n c.as_slice.result.now ((c.find.ensures.found class).0 c.in-Some.is) c.in-Virtual.is
    (subst (λ (ms : List Bool). (name : ClassId) → At ms name.0 true ↔ IsSubtype cs name class) (sym c.as_slice.ensures.value) c.in_ok-marks-in-Virtual.ensures.exact) in
    (λ has. calls.0 (exact.0 (same.0 has)), λ t. same.1 (exact.1 (calls.1 t)))
