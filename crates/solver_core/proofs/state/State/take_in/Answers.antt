use Rattle.std.proofs.Common.{arith, refl, ap, subst, sym, ◌≡◌, ◌+◌, length, slice_set, Some, None, Contains}
use Rattle.std.specs.List.{sum_by}
use Rattle.std.proofs.lemmas.Result.{err_from_is_err_and}
use Rattle.ifds_model.specs.Outcome.{AreMovesOf}
use Rattle.ifds_model.specs.State.{At}
use Rattle.solver_core.specs.Hands.{in_hand}
use Rattle.solver_core.specs.Room.{works_of}
use Rattle.solver_core.specs.Seen.{IsRight}
use Rattle.solver_core.specs.declared.parts.Parts.{Parts}
use Rattle.solver_core.proofs.Counted.{commits_within}
use Rattle.solver_core.proofs.Landing.{here, event, right_after}
use Rattle.solver_core.proofs.Landed.{not_both, place_within, emptied_hand, emptied_fit, same_view, same_fit, stopped_as}
use Rattle.solver_core.proofs.Prepared.{starts_kept}
use Rattle.solver_core.proofs.RoomLeft.{room_as}
use Rattle.solver_core.proofs.Standing.{stand_together}
use Rattle.solver_core.proofs.state.State.take_in.Goals as goal

pub prepare-requires-clause-known : goal.prepare-requires-clause-known
prepare-requires-clause-known g c =
    let work = c.in-Some.work in
    let flew = subst (λ xs. At xs c.args.w (Some work)) c.as_slice.ensures.value c.in-Some.ensures in
    omega (arith, c.place_of-context.ensures, place_within _ work (c.self.invariant.1.0.flights_in work (c.args.w, flew.0, flew.1)))

pub prepare-requires-clause-stand : goal.prepare-requires-clause-stand
prepare-requires-clause-stand g c =
    let problem = rw (← c.self.view_is) at c.requires.problem in
    let exact = subst (λ p. AreMovesOf (g.P.Problem.machine p) c.args.outcome.item c.moves.result.now) problem c.moves.ensures.exact in
    stand_together (g.P.Problem.machine c.self.inside.problem.now) _ _ c.lawful.ensures c.args.outcome.item c.moves.result.now exact

pub invariant_of-self : goal.invariant_of-self
invariant_of-self g c =
    let machine = g.P.Problem.machine c.self.inside.problem.now in
    let s = c.self.inside.parts in
    let t = c.prepare.new.parts in
    let same = c.prepare.ensures.same in (
      c.self.invariant.0,
      (same_fit machine s t same c.self.invariant.1.0, c.prepare.ensures.hands),
      subst (IsRight machine (g.P.Problem.reaches c.self.inside.problem.now)) (sym (same_view machine s t same c.self.inside.commits c.self.inside.lag c.self.inside.takes c.self.inside.period c.self.inside.max_edges)) c.self.invariant.2,
      c.self.invariant.3,
    )

pub returns-in_err-readies-clause-stopped : goal.returns-in_err-readies-clause-stopped
returns-in_err-readies-clause-stopped g c =
    let p = err_from_is_err_and c.from_residual.result c.from_residual.ensures.1 in
    let machine = g.P.Problem.machine c.self.inside.problem.now in
    let s = c.self.inside.parts in
    let t = c.prepare.new.parts in
    let flies = rw (← c.self.view_is) at c.requires.flies in
    let problem = rw (← c.self.view_is) at c.requires.problem in
    let flew = subst (λ xs. At xs c.args.w (Some c.in-Some.work)) c.as_slice.ensures.value c.in-Some.ensures in
    let same_context = here machine s t c.prepare.ensures.same c.args.w c.place_of-context.result c.args.outcome.item c.in-Some.work flies flew c.place_of-context.ensures in
    let exact = subst (λ p. AreMovesOf (g.P.Problem.machine p) c.args.outcome.item c.moves.result.now) problem c.moves.ensures.exact in
    rw (p.1, p.2) (rw (← c.self.view_is) (stopped_as machine s t c.prepare.ensures.same c.place_of-context.result c.args.outcome.item c.moves.result.now same_context exact c.self.inside.commits c.self.inside.lag c.self.inside.takes c.self.inside.period c.self.inside.max_edges _ c.in_err-readies.ensures.stopped))

pub returns-in_err-readies-clause-same : goal.returns-in_err-readies-clause-same
returns-in_err-readies-clause-same g c =
    let p = err_from_is_err_and c.from_residual.result c.from_residual.ensures.1 in
    let machine = g.P.Problem.machine c.self.inside.problem.now in
    rw (p.1) (rw (← c.self.view_is) (same_view machine c.self.inside.parts c.prepare.new.parts c.prepare.ensures.same c.self.inside.commits c.self.inside.lag c.self.inside.takes c.self.inside.period c.self.inside.max_edges))

pub returns-in_err-readies-clause-sound : goal.returns-in_err-readies-clause-sound
returns-in_err-readies-clause-sound g c =
    let machine = g.P.Problem.machine c.self.inside.problem.now in
    let as_it_was = same_view machine c.self.inside.parts c.prepare.new.parts c.prepare.ensures.same c.self.inside.commits c.self.inside.lag c.self.inside.takes c.self.inside.period c.self.inside.max_edges in
    subst (IsRight machine (g.P.Problem.reaches c.self.inside.problem.now)) (sym as_it_was) c.self.invariant.2

pub returns-in_err-readies-clause-within : goal.returns-in_err-readies-clause-within
returns-in_err-readies-clause-within g c = commits_within (g.P.Problem.machine c.self.inside.problem.now) _ c.self.invariant.2.sound

pub take_moves-requires-clause-fit : goal.take_moves-requires-clause-fit
take_moves-requires-clause-fit g c =
    let machine = g.P.Problem.machine c.self.inside.problem.now in
    let s = c.self.inside.parts in
    let t = c.prepare.new.parts in
    let same = c.prepare.ensures.same in
    let work = c.in-Some.work in
    let flew = subst (λ xs. At xs c.args.w (Some work)) c.as_slice.ensures.value c.in-Some.ensures in
    let now = subst (λ xs. At xs.items c.args.w (Some work)) (sym same.flights) flew in
    let emptied = emptied_hand c.hand_back.result (At t.flights.items c.args.w None) (c.hand_back.new.flights.items ≡ slice_set t.flights.items c.args.w None) (not_both t.flights.items c.args.w work now) c.hand_back.ensures.idle c.hand_back.ensures.emptied in
    emptied_fit t.tables.contexts t.tables.callers t.tables.exits t.edges.held t.queue.items t.flights.items c.hand_back.new.flights.items c.args.w now.0 emptied (same_fit machine s t same c.self.invariant.1.0)

pub take_moves-requires-clause-known : goal.take_moves-requires-clause-known
take_moves-requires-clause-known g c =
    let work = c.in-Some.work in
    let flew = subst (λ xs. At xs c.args.w (Some work)) c.as_slice.ensures.value c.in-Some.ensures in
    omega (arith, c.place_of-context.ensures, place_within _ work (c.self.invariant.1.0.flights_in work (c.args.w, flew.0, flew.1)), ap length c.prepare.ensures.same.contexts)

pub take_moves-requires-clause-starts : goal.take_moves-requires-clause-starts
take_moves-requires-clause-starts g c = λ r has.
    starts_kept (g.P.Problem.machine c.self.inside.problem.now) c.self.inside.parts.tables c.prepare.new.parts.tables r.starts.items r.step c.prepare.ensures.same.contexts (c.in_ok-readies.ensures.starts r (subst (λ xs. Contains xs r) c.as_slice-2.ensures.value has))

pub take_moves-requires-clause-room : goal.take_moves-requires-clause-room
take_moves-requires-clause-room g c = room_as c.place_of-context.result c.prepare.new.parts _ c.in_ok-readies.readies.items c.as_slice-2.result.now c.as_slice-2.ensures.value refl refl refl refl c.in_ok-readies.ensures.room

pub overflow_add-self : goal.overflow_add-self
overflow_add-self g c = omega (arith, commits_within (g.P.Problem.machine c.self.inside.problem.now) _ c.self.invariant.2.sound, c.self.invariant.3, c.commit_count.ensures.few)

pub invariant_of-self-2 : goal.invariant_of-self-2
invariant_of-self-2 g c =
    let machine = g.P.Problem.machine c.self.inside.problem.now in
    let t = c.prepare.new.parts in
    let mid : Parts g.row.P-Fact.Denot g.row.P-Mark.Denot = record { tables = t.tables; edges = t.edges; queue = t.queue; flights = c.hand_back.new.flights; marks = t.marks } in
    let problem = rw (← c.self.view_is) at c.requires.problem in
    let flew = subst (λ xs. At xs c.args.w (Some c.in-Some.work)) c.as_slice.ensures.value c.in-Some.ensures in
    let exact = subst (λ p. AreMovesOf (g.P.Problem.machine p) c.args.outcome.item c.moves.result.now) problem c.moves.ensures.exact in
    let now = subst (λ xs. At xs.items c.args.w (Some c.in-Some.work)) (sym c.prepare.ensures.same.flights) flew in
    let less = emptied_hand c.hand_back.result (At t.flights.items c.args.w None) (in_hand c.hand_back.new.flights.items + 1 ≡ in_hand t.flights.items) (not_both t.flights.items c.args.w c.in-Some.work now) c.hand_back.ensures.idle c.hand_back.ensures.less in
    let did = c.take_moves.ensures in (
      c.self.invariant.0,
      (did.fit, omega (arith, c.in_ok-readies.ensures.queue, did.queue_len, did.queue_room, less, ap (λ x. in_hand x.items) did.flights, ap (sum_by works_of) c.as_slice-2.ensures.value)),
      right_after machine c.self.inside.parts t c.prepare.ensures.same c.args.w c.place_of-context.result c.args.outcome.item c.in-Some.work (rw (← c.self.view_is) at c.requires.flies) flew c.place_of-context.ensures c.moves.result.now exact mid c.take_moves.new.parts c.as_slice-2.result.now c.in_ok-readies.readies.items c.self.inside.commits c.self.inside.lag c.self.inside.takes c.self.inside.period c.self.inside.max_edges c.commit_count.result c.saturating_add.result c.min-self-inside.result refl refl refl refl c.hand_back.result c.hand_back.ensures.idle c.hand_back.ensures.emptied c.as_slice-2.ensures.value c.in_ok-readies.ensures.steps c.in_ok-readies.ensures.within c.take_moves.ensures.taken c.take_moves.ensures.held c.commit_count.ensures.count c.saturating_add.ensures c.min-self-inside.ensures (omega arith) (g.P.Problem.reaches c.self.inside.problem.now) c.self.invariant.2 c.self.invariant.0 c.take_moves.ensures.fit,
      c.self.invariant.3,
    )

pub returns-clause-event : goal.returns-clause-event
returns-clause-event g c =
    let machine = g.P.Problem.machine c.self.inside.problem.now in
    let t = c.prepare.new.parts in
    let mid : Parts g.row.P-Fact.Denot g.row.P-Mark.Denot = record { tables = t.tables; edges = t.edges; queue = t.queue; flights = c.hand_back.new.flights; marks = t.marks } in
    let problem = rw (← c.self.view_is) at c.requires.problem in
    let flew = subst (λ xs. At xs c.args.w (Some c.in-Some.work)) c.as_slice.ensures.value c.in-Some.ensures in
    let exact = subst (λ p. AreMovesOf (g.P.Problem.machine p) c.args.outcome.item c.moves.result.now) problem c.moves.ensures.exact in
    rw (← c.self.view_is) (event machine c.self.inside.parts t c.prepare.ensures.same c.args.w c.place_of-context.result c.args.outcome.item c.in-Some.work (rw (← c.self.view_is) at c.requires.flies) flew c.place_of-context.ensures c.moves.result.now exact mid c.take_moves.new.parts c.as_slice-2.result.now c.in_ok-readies.readies.items c.self.inside.commits c.self.inside.lag c.self.inside.takes c.self.inside.period c.self.inside.max_edges c.commit_count.result c.saturating_add.result c.min-self-inside.result refl refl refl refl c.hand_back.result c.hand_back.ensures.idle c.hand_back.ensures.emptied c.as_slice-2.ensures.value c.in_ok-readies.ensures.steps c.in_ok-readies.ensures.within c.take_moves.ensures.taken c.take_moves.ensures.held c.commit_count.ensures.count c.saturating_add.ensures c.min-self-inside.ensures (omega arith))

pub returns-clause-sound : goal.returns-clause-sound
returns-clause-sound g c =
    let machine = g.P.Problem.machine c.self.inside.problem.now in
    let t = c.prepare.new.parts in
    let mid : Parts g.row.P-Fact.Denot g.row.P-Mark.Denot = record { tables = t.tables; edges = t.edges; queue = t.queue; flights = c.hand_back.new.flights; marks = t.marks } in
    let problem = rw (← c.self.view_is) at c.requires.problem in
    let flew = subst (λ xs. At xs c.args.w (Some c.in-Some.work)) c.as_slice.ensures.value c.in-Some.ensures in
    let exact = subst (λ p. AreMovesOf (g.P.Problem.machine p) c.args.outcome.item c.moves.result.now) problem c.moves.ensures.exact in
    right_after machine c.self.inside.parts t c.prepare.ensures.same c.args.w c.place_of-context.result c.args.outcome.item c.in-Some.work (rw (← c.self.view_is) at c.requires.flies) flew c.place_of-context.ensures c.moves.result.now exact mid c.take_moves.new.parts c.as_slice-2.result.now c.in_ok-readies.readies.items c.self.inside.commits c.self.inside.lag c.self.inside.takes c.self.inside.period c.self.inside.max_edges c.commit_count.result c.saturating_add.result c.min-self-inside.result refl refl refl refl c.hand_back.result c.hand_back.ensures.idle c.hand_back.ensures.emptied c.as_slice-2.ensures.value c.in_ok-readies.ensures.steps c.in_ok-readies.ensures.within c.take_moves.ensures.taken c.take_moves.ensures.held c.commit_count.ensures.count c.saturating_add.ensures c.min-self-inside.ensures (omega arith) (g.P.Problem.reaches c.self.inside.problem.now) c.self.invariant.2 c.self.invariant.0 c.take_moves.ensures.fit

pub returns-clause-within : goal.returns-clause-within
returns-clause-within g c =
    let machine = g.P.Problem.machine c.self.inside.problem.now in
    let t = c.prepare.new.parts in
    let mid : Parts g.row.P-Fact.Denot g.row.P-Mark.Denot = record { tables = t.tables; edges = t.edges; queue = t.queue; flights = c.hand_back.new.flights; marks = t.marks } in
    let problem = rw (← c.self.view_is) at c.requires.problem in
    let flew = subst (λ xs. At xs c.args.w (Some c.in-Some.work)) c.as_slice.ensures.value c.in-Some.ensures in
    let exact = subst (λ p. AreMovesOf (g.P.Problem.machine p) c.args.outcome.item c.moves.result.now) problem c.moves.ensures.exact in
    commits_within machine _ (right_after machine c.self.inside.parts t c.prepare.ensures.same c.args.w c.place_of-context.result c.args.outcome.item c.in-Some.work (rw (← c.self.view_is) at c.requires.flies) flew c.place_of-context.ensures c.moves.result.now exact mid c.take_moves.new.parts c.as_slice-2.result.now c.in_ok-readies.readies.items c.self.inside.commits c.self.inside.lag c.self.inside.takes c.self.inside.period c.self.inside.max_edges c.commit_count.result c.saturating_add.result c.min-self-inside.result refl refl refl refl c.hand_back.result c.hand_back.ensures.idle c.hand_back.ensures.emptied c.as_slice-2.ensures.value c.in_ok-readies.ensures.steps c.in_ok-readies.ensures.within c.take_moves.ensures.taken c.take_moves.ensures.held c.commit_count.ensures.count c.saturating_add.ensures c.min-self-inside.ensures (omega arith) (g.P.Problem.reaches c.self.inside.problem.now) c.self.invariant.2 c.self.invariant.0 c.take_moves.ensures.fit).sound
