use Rattle.std.proofs.lemmas.Result.{on_ok_weaker}
use Rattle.call_graph.proofs.Listing.{edges_added}
use Rattle.call_graph.proofs.edges.add_calls.Goals as goal

pub returns-in-Some-clause-added : goal.returns-in-Some-clause-added
returns-in-Some-clause-added c =
    on_ok_weaker c.add_targets.result
    (λ more. edges_added c.args.known.now.classes c.args.known.now.lines c.args.calls.now.items c.add_targets.new.calls.items c.args.caller c.args.place c.args.stmt.now c.in-Some.call.now more.0
    c.in-Some.ensures.some more.1 more.2)
    c.add_targets.ensures.added
