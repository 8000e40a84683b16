use Rattle.std.proofs.Common.{◌∙◌, map, ap}
use Rattle.clean_base.specs.declared.ids.MethodId.{MethodId}
use Rattle.app_program.proofs.Calling.{calls_more}
use Rattle.app_program.proofs.calls.calls_of.Goals as goal

pub loop-m-preserved : goal.loop-m-preserved
loop-m-preserved c =
    let m : MethodId = record { 0 = c.loop-m.m } in
    let numbered = c.in_ok-numbers.ensures ∙ ap (map (λ (n : MethodId). n.0)) c.as_slice.ensures.value in
    calls_more c.args.graph.now c.args.targets.now m c.in_ok-called.called.items c.in_ok-numbers.field-0 c.loop-m.rows.items c.push.new.self.items c.in_ok-called.ensures numbered c.loop-m.invariant c.in_ok-push.ensures.items
