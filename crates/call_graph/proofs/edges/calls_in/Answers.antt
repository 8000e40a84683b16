use Rattle.std.proofs.Common.{◌⊎◌, ◌↔◌, ◌∙◌, List, Contains, arith}
use Rattle.jimple_tree.specs.declared.tree.Class.{Class}
use Rattle.source_sink.specs.declared.line.Line.{Line}
use Rattle.call_graph.specs.Floods.{IsCallAt}
use Rattle.call_graph.specs.declared.edges.CallEdge.{CallEdge}
use Rattle.call_graph.proofs.Knowing.{as_before}
use Rattle.call_graph.proofs.Listing.{stmt_more, stmts_all}
use Rattle.call_graph.proofs.edges.calls_in.Goals as goal

pub loop-place-preserved : goal.loop-place-preserved
loop-place-preserved c =
    let before = c.loop-place.invariant in
    let known = c.args.known.now in
    let added = as_before (λ (cs : List Class) (ls : List Line). (e : CallEdge) → Contains c.add_calls.new.calls.items e ↔ (Contains c.loop-place.calls.items e ⊎ IsCallAt cs ls c.args.caller c.loop-place.place c.index-stmts-place.result e))
    c.loop-place.known.classes known.classes c.loop-place.known.lines known.lines before.classes before.lines c.in_ok-add_calls.ensures.added in
    record {
      classes = c.in_ok-add_calls.ensures.classes ∙ before.classes;
      lines = c.in_ok-add_calls.ensures.lines ∙ before.lines;
      calls = stmt_more known.classes known.lines c.args.caller c.args.stmts.now c.loop-place.place c.index-stmts-place.result c.loop-place.calls.items c.add_calls.new.calls.items (omega arith) c.index-stmts-place.is before.calls added;
    }

pub returns-clause-exact : goal.returns-clause-exact
returns-clause-exact c = stmts_all c.args.known.now.classes c.args.known.now.lines c.args.caller c.args.stmts.now c.loop-place.place c.loop-place.calls.items (omega arith) c.loop-place.invariant.calls
