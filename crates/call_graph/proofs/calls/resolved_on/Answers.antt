use Rattle.std.proofs.Common.{Global, Vec, ap, ◌∙◌}
use Rattle.clean_base.specs.declared.ids.MethodId.{MethodId}
use Rattle.call_graph.proofs.Resolved.{found_more, found_none, one_class}
use Rattle.call_graph.proofs.calls.resolved_on.Goals as goal
use Rattle.call_graph.proofs.calls.resolved_on.Goals.{in-Some+in_ok-push, in_default}

pub returns-clause-exact : goal.returns-clause-exact
returns-clause-exact c =
    let cs = c.args.table.now in
    let old = c.new-found.result.items in
    let found = c.in_ok-method.field-0 in
    one_class cs old c.match-branch-2.found.items c.new-found.ensures.items (elim c.match-branch-2.branch [
      | in-Some+in_ok-push w ↦ found_more cs old c.match-branch-2.found.items w.in-Some.method found w.in-Some.is c.in_ok-method.ensures (ap (λ (v : Vec MethodId Global). v.items) w.found-is ∙ w.in_ok-push.ensures.items)
      | in_default w ↦ found_none cs old c.match-branch-2.found.items found w.in_default.not-Some c.in_ok-method.ensures (ap (λ (v : Vec MethodId Global). v.items) w.found-is)
    ])
