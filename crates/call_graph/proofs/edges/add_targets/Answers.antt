use Rattle.std.proofs.Common.{List, sym, subst}
use Rattle.std.proofs.lemmas.Result.{on_ok_weaker}
use Rattle.clean_base.specs.declared.ids.MethodId.{MethodId}
use Rattle.jimple_tree.specs.declared.tree.Class.{Class}
use Rattle.source_sink.specs.declared.line.Line.{Line}
use Rattle.call_graph.specs.Floods.{AreOpenTargets}
use Rattle.call_graph.proofs.Knowing.{as_before, open_targets}
use Rattle.call_graph.proofs.edges.add_targets.Goals as goal

pub returns-clause-added : goal.returns-clause-added
returns-clause-added c =
    let known = c.args.known.now in
    let call = c.args.call.now in
    let k = c.at-sig.result.now in
    let is = c.at-sig.ensures call.sig c.in_ok-number.ensures.at in
    let are = as_before (λ (cs : List Class) (ls : List Line). AreOpenTargets cs ls call k.targets) c.know.new.self.classes known.classes c.know.new.self.lines known.lines c.in_ok-number.ensures.classes c.in_ok-number.ensures.lines
    (open_targets c.know.new.self.classes c.know.new.self.lines call k is) in
    on_ok_weaker c.add_edges.result (λ added. (c.as_slice.result.now, subst (λ (ms : List MethodId). AreOpenTargets known.classes known.lines call ms) (sym c.as_slice.ensures) are, added)) c.add_edges.ensures
