use Rattle.std.proofs.Common.{arith, refl, subst, ◌∙◌, ◌+◌, drop}
use Rattle.solver_core.specs.Numbers.{context_at}
use Rattle.solver_core.specs.Room.{HasRoomFor, edges_of, works_of}
use Rattle.solver_core.proofs.RoomLeft.{room_first, room_rest, later_starts}
use Rattle.solver_core.proofs.MovesTaken.{at_number_of, number_at, head_of, next_of, there_of, sum_next, begun, one_taken, all_taken}
use Rattle.solver_core.proofs.intake.take_moves.Goals as goal

pub loop-ready-init : goal.loop-ready-init
loop-ready-init g c =
    let machine = g.P.Problem.machine c.args.problem.now in
    let parts = c.args.parts.now in
    record {
      fit = c.requires.fit;
      known = at_number_of machine.root parts.tables.contexts c.args.context c.requires.known;
      taken = λ commits lag takes period max_edges. begun machine (context_at machine.root parts.tables.contexts c.args.context) c.args.readies.now _;
      starts = c.requires.starts;
      room = c.requires.room;
      flights = refl;
      held = omega arith;
      queue_len = omega arith;
      queue_room = refl;
    }

pub take_move-requires-clause-starts : goal.take_move-requires-clause-starts
take_move-requires-clause-starts g c = c.loop-ready.invariant.starts c.ready-item.result (there_of c.args.readies.now c.loop-ready.ready-index c.ready-item.result (omega arith) c.ready-item.is)

pub take_move-requires-clause-room : goal.take_move-requires-clause-room
take_move-requires-clause-room g c =
    let rs = c.args.readies.now in
    let i = c.loop-ready.ready-index in
    let r = c.ready-item.result in
    room_first c.args.context c.loop-ready.parts r (drop (i + 1) rs) (subst (λ zs. HasRoomFor c.args.context c.loop-ready.parts zs) (next_of rs i r (omega arith) c.ready-item.is) c.loop-ready.invariant.room)

pub loop-ready-preserved : goal.loop-ready-preserved
loop-ready-preserved g c =
    let machine = g.P.Problem.machine c.args.problem.now in
    let old = c.args.parts.now in
    let mid = c.loop-ready.parts in
    let new = c.take_move.new.parts in
    let inv = c.loop-ready.invariant in
    let did = c.take_move.ensures in
    let rs = c.args.readies.now in
    let i = c.loop-ready.ready-index in
    let r = c.ready-item.result in
    let e = context_at machine.root old.tables.contexts c.args.context in
    record {
      fit = did.fit;
      known = (did.uses inv.room.at (inv.room.stand r (head_of rs i r (omega arith) c.ready-item.is))).at c.args.context e inv.known;
      taken = λ commits lag takes period max_edges. one_taken machine e rs i r _ _ _ (context_at machine.root mid.tables.contexts c.args.context) (number_at machine.root mid.tables.contexts c.args.context e inv.known) (omega arith) c.ready-item.is (inv.taken commits lag takes period max_edges) (did.taken commits lag takes period max_edges);
      starts = λ q has. later_starts machine _ _ _ _ mid.tables new.tables q.starts.items q.step (did.uses inv.room.at (inv.room.stand r (head_of rs i r (omega arith) c.ready-item.is))) (inv.starts q has);
      room = room_rest c.args.context mid r (drop (i + 1) rs) (subst (λ zs. HasRoomFor c.args.context mid zs) (next_of rs i r (omega arith) c.ready-item.is) inv.room) new did.uses did.mark_room did.edge_room did.queue_len did.queue_room;
      flights = did.flights ∙ inv.flights;
      held = omega (arith, inv.held, did.held, sum_next edges_of rs i r (omega arith) c.ready-item.is);
      queue_len = omega (arith, inv.queue_len, did.queue_len, sum_next works_of rs i r (omega arith) c.ready-item.is);
      queue_room = did.queue_room ∙ inv.queue_room;
    }

pub returns-clause-taken : goal.returns-clause-taken
returns-clause-taken g c = λ commits lag takes period max_edges.
    let machine = g.P.Problem.machine c.args.problem.now in
    all_taken machine (context_at machine.root c.args.parts.now.tables.contexts c.args.context) c.args.readies.now c.loop-ready.ready-index _ _ (omega arith) (c.loop-ready.invariant.taken commits lag takes period max_edges)
