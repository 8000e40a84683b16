use Rattle.std.proofs.Common.{◌∙◌, List, map, ap, refl}
use Rattle.jimple_tree.specs.declared.tree.Class.{Class}
use Rattle.source_sink.specs.declared.line.Line.{Line}
use Rattle.call_graph.proofs.Knowing.{as_before}
use Rattle.call_graph.specs.Known.{IsKnown}
use Rattle.statement_views.specs.Views.{local_of}
use Rattle.statement_views.proofs.Opened.{opens_to}
use Rattle.statement_views.proofs.views.call_view.Goals as goal

pub returns-clause-view : goal.returns-clause-view
returns-clause-view c =
    let known = c.args.known.now in
    let sig = c.at-sig.result.now in
    let is = as_before (λ (cs : List Class) (ls : List Line). IsKnown cs ls c.args.invoke.now.kind c.args.invoke.now.sig sig) c.know.new.self.classes known.classes c.know.new.self.lines known.lines c.in_ok-number.ensures.classes c.in_ok-number.ensures.lines
    (c.at-sig.ensures c.args.invoke.now.sig c.in_ok-number.ensures.at) in (
      _,
      record {
        stands = refl;
        gives = refl;
        on = refl;
        takes = c.from_vec.ensures ∙ c.in_ok-args.ensures ∙ ap (map local_of) c.as_slice.ensures;
        source_says = is.source;
        sink_says = is.sink;
        opens = opens_to known.classes known.lines c.args.invoke.now sig c.as_slice-2.result.now c.is_empty.result is c.as_slice-2.ensures c.is_empty.ensures;
      },
      refl,
    )
