use Rattle.std.proofs.Common.{◌≡◌, ◌≤◌, ◌<◌, ◌↔◌, ◌+◌, ◌∙◌, ◌++◌, List, Contains, length, sym, ap, subst, arith}
use Rattle.clean_base.specs.declared.ids.MethodId.{MethodId}
use Rattle.reach_rows.specs.Reaches.{Reaches}
use Rattle.source_sink.specs.declared.line.Line.{Line}
use Rattle.call_graph.specs.Floods.{IsMore, IsTargetIn, IsFlood}
use Rattle.call_graph.specs.Graphs.{Calls, IsCall}
use Rattle.call_graph.specs.Known.{Known}
use Rattle.call_graph.specs.declared.edges.CallEdge.{CallEdge}
use Rattle.call_graph.proofs.Meeting.{none_met_yet, flood_begun, flood_more, more_long, flood_reached, flood_calls, met_within}
use Rattle.call_graph.proofs.edges.flood.Goals as goal

pub meet-requires-clause-met : goal.meet-requires-clause-met
meet-requires-clause-met c = none_met_yet c.new-order.result.items c.args.met.now c.new-order.ensures.items c.requires.none

pub loop-done-init : goal.loop-done-init
loop-done-init c =
    let more = subst (λ (ms : List MethodId). IsMore (λ (n : MethodId). c.args.root ≡ n) ms c.meet.new.order.items) c.new-order.ensures.items c.in_ok-meet.ensures.more in
    record {
      within = omega arith;
      met = c.in_ok-meet.ensures.met;
      classes = ap (λ (k : Known). k.classes) c.new-known.ensures;
      lines = ap (λ (k : Known). k.lines) c.new-known.ensures;
      flood = flood_begun c.args.table.now c.args.lists.now c.args.root c.meet.new.order.items c.new-calls.result.items more c.new-calls.ensures.items;
    }

pub calls_of-requires-clause-number : goal.calls_of-requires-clause-number
calls_of-requires-clause-number c =
    let long = c.loop-done.order.ok.0 in
    let below : c.loop-done.done < length c.loop-done.order.items = omega (arith, long) in
    let within = met_within c.loop-done.order.items c.loop-done.met c.index.result.now c.loop-done.invariant.met (c.loop-done.done, below, sym c.index.ensures) in
    let kept = c.meet.auto.met in
    omega (arith, within, kept)

pub loop-done-preserved : goal.loop-done-preserved
loop-done-preserved c =
    let order = c.loop-done.order.items in
    let next = c.meet_targets.new.order.items in
    let long = c.loop-done.order.ok.0 in
    let below : c.loop-done.done < length order = omega (arith, long) in
    let more = subst (λ (es : List CallEdge). IsMore (IsTargetIn es) order next) c.as_slice.ensures.value c.in_ok-meet_targets.ensures.more in
    let exact = subst (λ (ls : List Line). (e : CallEdge) → Contains c.in_ok-own.own.items e ↔ ((e.caller ≡ c.index.result.now) × IsCall c.args.table.now ls e)) c.loop-done.invariant.lines c.in_ok-own.ensures.exact in
    let calls = c.in_ok-extend_from_slice.ensures.items ∙ ap (λ (es : List CallEdge). c.loop-done.calls.items ++ es) c.as_slice-in-loop-done.ensures.value in
    record {
      within = more_long c.args.table.now c.args.lists.now c.args.root order next c.loop-done.done c.loop-done.calls.items c.in_ok-own.own.items c.index.result.now below c.index.ensures c.loop-done.invariant.flood exact more;
      met = c.in_ok-meet_targets.ensures.met;
      classes = c.in_ok-own.ensures.classes ∙ c.loop-done.invariant.classes;
      lines = c.in_ok-own.ensures.lines ∙ c.loop-done.invariant.lines;
      flood = subst (λ (es : List CallEdge). IsFlood c.args.table.now c.args.lists.now c.args.root next (c.loop-done.done + 1) es) (sym calls)
          (flood_more c.args.table.now c.args.lists.now c.args.root order next c.loop-done.done c.loop-done.calls.items c.in_ok-own.own.items c.index.result.now below c.index.ensures c.loop-done.invariant.flood exact more);
    }

pub returns-clause-reached : goal.returns-clause-reached
returns-clause-reached c =
    let long = c.loop-done.order.ok.0 in
    let past : length c.loop-done.order.items ≤ c.loop-done.done = omega (arith, long) in
    subst (λ (ms : List MethodId). (m : MethodId) → Contains ms m ↔ Reaches (Calls c.args.table.now c.args.lists.now) c.args.root m) (sym c.from_vec-2.ensures)
    (flood_reached c.args.table.now c.args.lists.now c.args.root c.loop-done.order.items c.loop-done.done c.loop-done.calls.items past c.loop-done.invariant.flood)

pub returns-clause-calls : goal.returns-clause-calls
returns-clause-calls c =
    let long = c.loop-done.order.ok.0 in
    let past : length c.loop-done.order.items ≤ c.loop-done.done = omega (arith, long) in
    subst (λ (es : List CallEdge). (e : CallEdge) → Contains es e ↔ (Reaches (Calls c.args.table.now c.args.lists.now) c.args.root e.caller × IsCall c.args.table.now c.args.lists.now e)) (sym c.from_vec.ensures)
    (flood_calls c.args.table.now c.args.lists.now c.args.root c.loop-done.order.items c.loop-done.done c.loop-done.calls.items past c.loop-done.invariant.flood)
