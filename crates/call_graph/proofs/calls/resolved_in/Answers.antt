use Rattle.std.proofs.Common.{◌↔◌, Global, List, Option, Some, Vec, sym, ap, subst, ◌∙◌, arith}
use Rattle.clean_base.specs.Lists.{At}
use Rattle.clean_base.specs.declared.ids.ClassId.{ClassId}
use Rattle.clean_base.specs.declared.ids.MethodId.{MethodId}
use Rattle.call_graph.specs.ByNumber.{ResolvesAt}
use Rattle.call_graph.proofs.Resolved.{class_more, classes_all, found_more, found_none}
use Rattle.call_graph.proofs.calls.resolved_in.Goals as goal
use Rattle.call_graph.proofs.calls.resolved_in.Goals.{in-Some+in_ok-push, in_default}

pub loop-number-preserved : goal.loop-number-preserved
loop-number-preserved c =
    let cs = c.args.table.now in
    let old = c.loop-number.found.items in
    let new = c.match-chosen.found.items in
    let methods = c.as_slice.result.now in
    class_more cs c.args.marks.now methods old new c.loop-number.number c.args.sig.now (omega (arith, c.loop-number-test.true, c.classes-number-end.ensures))
    (subst (λ (ms : List (Option MethodId)). (class : ClassId) (n : MethodId) → At ms class.0 (Some n) ↔ ResolvesAt cs class c.args.sig.now n) (sym c.as_slice.ensures.value) c.in_ok-methods.ensures.exact) c.loop-number.invariant
    (elim c.match-chosen.branch [
      | in-Some+in_ok-push w ↦ found_more cs old new w.in-Some.method c.chosen.result w.in-Some.is c.chosen.ensures (ap (λ (v : Vec MethodId Global). v.items) w.found-is ∙ w.in_ok-push.ensures.items)
      | in_default w ↦ found_none cs old new c.chosen.result w.in_default.not-Some c.chosen.ensures (ap (λ (v : Vec MethodId Global). v.items) w.found-is)
    ])

pub returns : goal.returns
returns c = classes_all c.args.table.now c.args.marks.now c.loop-number.found.items c.loop-number.number c.args.sig.now (omega (arith, c.loop-number-test.false, c.classes-number-end.ensures, c.requires)) c.loop-number.invariant
