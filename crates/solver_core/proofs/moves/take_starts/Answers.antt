use Rattle.std.proofs.Common.{arith, refl, ap, ◌∙◌}
use Rattle.entry_tables.specs.Tables.{Tables}
use Rattle.solver_core.specs.Numbers.{context_at}
use Rattle.solver_core.specs.Seen.{view_of_parts}
use Rattle.solver_core.proofs.Starts.{begin, one_more_as, all_of}
use Rattle.solver_core.proofs.moves.take_starts.Goals as goal

pub loop-node-init : goal.loop-node-init
loop-node-init g c = record {
  fit = c.requires.fit;
  taken = λ commits lag takes period max_edges. begin (g.P.Problem.machine c.args.problem.now) (context_at (g.P.Problem.machine c.args.problem.now).root c.args.parts.now.tables.contexts c.args.context) c.args.fact c.args.starts.now _;
  tables = refl;
  flights = refl;
  marks = refl;
  held = omega arith;
  edge_room = omega arith;
  queue_len = omega arith;
  queue_room = refl;
}

pub loop-node-preserved : goal.loop-node-preserved
loop-node-preserved g c =
    let inv = c.loop-node.invariant in
    let did = c.take_go.ensures in
    record {
      fit = did.fit;
      taken = λ commits lag takes period max_edges.
          let machine = (g.P.Problem.machine c.args.problem.now) in
          one_more_as machine (context_at machine.root c.args.parts.now.tables.contexts c.args.context) c.args.fact c.args.starts.now c.loop-node.node-index _ (view_of_parts machine c.args.parts.now commits lag takes period max_edges) (view_of_parts machine c.loop-node.parts commits lag takes period max_edges) (view_of_parts machine c.take_go.new.parts commits lag takes period max_edges) (context_at machine.root c.loop-node.parts.tables.contexts c.args.context)
          (ap (λ (t : Tables g.row.P-Fact.Denot). context_at machine.root t.contexts c.args.context) inv.tables) (omega arith) (inv.taken commits lag takes period max_edges) (did.taken commits lag takes period max_edges);
      tables = did.tables ∙ inv.tables;
      flights = did.flights ∙ inv.flights;
      marks = did.marks ∙ inv.marks;
      held = omega (arith, inv.held, did.held);
      edge_room = omega (arith, inv.edge_room, did.edge_room);
      queue_len = omega (arith, inv.queue_len, did.queue_len);
      queue_room = did.queue_room ∙ inv.queue_room;
    }

pub returns-clause-taken : goal.returns-clause-taken
returns-clause-taken g c = λ commits lag takes period max_edges. all_of (g.P.Problem.machine c.args.problem.now) (context_at (g.P.Problem.machine c.args.problem.now).root c.args.parts.now.tables.contexts c.args.context) c.args.fact c.args.starts.now c.loop-node.node-index _ _ (omega arith) (c.loop-node.invariant.taken commits lag takes period max_edges)
