use Rattle.std.proofs.Common.{arith, ap, subst, ◌≡◌, ◌≤◌, ◌<◌, ◌∙◌, ℕ, slice_index, Contains}
use Rattle.std.specs.List.{sum_by}
use Rattle.solver_core.specs.Hands.{in_hand}
use Rattle.solver_core.specs.Room.{HasCallerRoom, JoinsWithin, calls_of, leaves_of}
use Rattle.solver_core.proofs.Gathered.{on_ok}
use Rattle.solver_core.proofs.Prepared.{on_ok_four, joins_kept}
use Rattle.solver_core.proofs.room.make_room.Goals as goal

pub returns-clause-room : goal.returns-clause-room
returns-clause-room g c =
    let did = c.make_entry_room.ensures in
    let tables = c.make_entry_room.new.tables in
    let rs = c.args.readies.now in
    let calls = c.args.kinds.calls in
    let exits = c.args.kinds.exits in
    on_ok_four c.make_entry_room.result (calls ≤ tables.spare_contexts) (0 < tables.first_callers) (exits ≤ slice_index tables.spare_exits c.args.context) ((r : _) → Contains rs r → HasCallerRoom tables c.args.context r.step) _
    did.contexts did.first did.exits did.callers
    (λ contexts first leaves callers. record {
      at = c.requires.stand.0;
      stand = c.requires.stand.1;
      contexts = omega (arith, contexts, c.requires.calls);
      first = first;
      exits = omega (arith, leaves, c.requires.exits);
      callers = callers;
      joins = λ r has. joins_kept c.args.parts.now.tables tables c.args.context (sum_by calls_of rs) (sum_by leaves_of rs) r.joins r.step did.same.0 did.same.1 did.same.2
          (subst (λ (n : ℕ). JoinsWithin c.args.parts.now.tables c.args.context n (sum_by leaves_of rs) r.joins r.step) c.requires.calls
          (subst (λ (n : ℕ). JoinsWithin c.args.parts.now.tables c.args.context calls n r.joins r.step) c.requires.exits (c.requires.joins r has)));
      marks = omega (arith, c.in_ok-reserve-3.ensures.ok);
      edges = omega (arith, c.in_ok-reserve-2.ensures.room, c.in_ok-edges.ensures);
      queue = omega (arith, c.in_ok-reserve.ensures.ok, c.in_ok-works.ensures, c.in_ok-work_count.ensures);
    })

pub returns-clause-queue : goal.returns-clause-queue
returns-clause-queue g c =
    let hands : c.out_of-in_flight.result ≡ in_hand c.args.parts.now.flights.items = c.out_of-in_flight.ensures ∙ ap in_hand c.as_slice.ensures.value in
    on_ok c.make_entry_room.result _ _ (λ room. omega (arith, c.in_ok-reserve.ensures.ok, c.in_ok-works.ensures, c.in_ok-work_count.ensures, hands)) c.make_entry_room.ensures.contexts
