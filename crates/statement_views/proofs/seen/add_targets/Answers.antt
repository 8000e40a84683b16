use Rattle.std.proofs.Common.{List}
use Rattle.std.proofs.lemmas.Result.{on_ok_weaker}
use Rattle.jimple_tree.specs.declared.tree.Class.{Class}
use Rattle.source_sink.specs.declared.line.Line.{Line}
use Rattle.call_graph.proofs.Knowing.{as_before}
use Rattle.call_graph.specs.Known.{IsKnown}
use Rattle.statement_views.proofs.Seeing.{targets_are}
use Rattle.statement_views.proofs.seen.add_targets.Goals as goal

pub returns-in_ok-number-in-Some-clause-added : goal.returns-in_ok-number-in-Some-clause-added
returns-in_ok-number-in-Some-clause-added c =
    let known = c.args.known.now in
    let call = c.in-Some.call.now in
    let is = as_before (λ (cs : List Class) (ls : List Line). IsKnown cs ls call.kind call.sig c.at-sig.result.now) c.know.new.self.classes known.classes c.know.new.self.lines known.lines c.in_ok-number-in-Some.ensures.classes c.in_ok-number-in-Some.ensures.lines
    (c.at-sig.ensures call.sig c.in_ok-number-in-Some.ensures.at) in
    on_ok_weaker c.push_row.result (λ added. (c.as_slice.result.now, targets_are known.classes known.lines c.args.stmt.now call c.at-sig.result.now c.as_slice.result.now c.in-Some.ensures.some is c.as_slice.ensures, added)) c.push_row.ensures
