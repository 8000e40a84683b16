use Rattle.std.proofs.Common.{arith, ◌≡◌, ◌∷◌, [], subst, sym}
use Rattle.std.specs.List.{sum_by}
use Rattle.std.proofs.lemmas.List.Sums.{sum_by-cons}
use Rattle.entry_tables.specs.Tables.{call_site}
use Rattle.solver_core.specs.Room.{Uses, JoinsWithin, HasCallerRoom, calls_of, leaves_of, works_of}
use Rattle.solver_core.specs.Seen.{TakesInParts}
use Rattle.solver_core.proofs.RoomLeft.{here, uses_of}
use Rattle.solver_core.proofs.Used.{uses_none}
use Rattle.solver_core.proofs.intake.take_move.Goals as goal

pub take_call-requires-clause-callers : goal.take_call-requires-clause-callers
take_call-requires-clause-callers g c =
    let r = c.args.ready.now in
    subst (λ m. HasCallerRoom c.args.parts.now.tables c.args.context m) c.in-Call.is (c.requires.room.callers r (here r []))

pub take_call-requires-clause-joins : goal.take_call-requires-clause-joins
take_call-requires-clause-joins g c =
    let r = c.args.ready.now in
    let within = subst (λ m. JoinsWithin c.args.parts.now.tables c.args.context (sum_by calls_of (r ∷ [])) (sum_by leaves_of (r ∷ [])) r.joins m) c.in-Call.is (c.requires.room.joins r (here r [])) in
    λ k at. omega (arith, within.1 k at, c.requires.room.queue, sum_by-cons works_of r [])

pub take_exit-requires-clause-queue : goal.take_exit-requires-clause-queue
take_exit-requires-clause-queue g c =
    let r = c.args.ready.now in
    let within = subst (λ m. JoinsWithin c.args.parts.now.tables c.args.context (sum_by calls_of (r ∷ [])) (sum_by leaves_of (r ∷ [])) r.joins m) c.in-Exit.is (c.requires.room.joins r (here r [])) in
    omega (arith, within, c.requires.room.queue, sum_by-cons works_of r [])

pub returns-in-Go-clause-taken : goal.returns-in-Go-clause-taken
returns-in-Go-clause-taken g c = subst (λ s. TakesInParts (g.P.Problem.machine c.args.problem.now) c.args.context (λ m. m ≡ s) c.args.parts.now c.take_go.new.parts) (sym c.in-Go.is) c.take_go.ensures.taken

pub returns-in-Call-clause-taken : goal.returns-in-Call-clause-taken
returns-in-Call-clause-taken g c = subst (λ s. TakesInParts (g.P.Problem.machine c.args.problem.now) c.args.context (λ m. m ≡ s) c.args.parts.now c.take_call.new.parts) (sym c.in-Call.is) c.take_call.ensures.taken

pub returns-in-Call-clause-queue_len : goal.returns-in-Call-clause-queue_len
returns-in-Call-clause-queue_len g c =
    let r = c.args.ready.now in
    let within = subst (λ m. JoinsWithin c.args.parts.now.tables c.args.context (sum_by calls_of (r ∷ [])) (sum_by leaves_of (r ∷ [])) r.joins m) c.in-Call.is (c.requires.room.joins r (here r [])) in
    c.take_call.ensures.queue_len (works_of r) (omega (arith, c.as_slice.ensures.len)) (λ k at. omega (arith, within.1 k at))

pub returns-in-Exit-clause-taken : goal.returns-in-Exit-clause-taken
returns-in-Exit-clause-taken g c = subst (λ s. TakesInParts (g.P.Problem.machine c.args.problem.now) c.args.context (λ m. m ≡ s) c.args.parts.now c.take_exit.new.parts) (sym c.in-Exit.is) c.take_exit.ensures.taken

pub returns-in-Exit-clause-queue_len : goal.returns-in-Exit-clause-queue_len
returns-in-Exit-clause-queue_len g c =
    let r = c.args.ready.now in
    let within = subst (λ m. JoinsWithin c.args.parts.now.tables c.args.context (sum_by calls_of (r ∷ [])) (sum_by leaves_of (r ∷ [])) r.joins m) c.in-Exit.is (c.requires.room.joins r (here r [])) in
    omega (arith, within, c.take_exit.ensures.queue_len)

pub returns-in-Mark-clause-taken : goal.returns-in-Mark-clause-taken
returns-in-Mark-clause-taken g c = subst (λ s. TakesInParts (g.P.Problem.machine c.args.problem.now) c.args.context (λ m. m ≡ s) c.args.parts.now c.take_mark.new.parts) (sym c.in-Mark.is) c.take_mark.ensures.taken

pub returns-in-Go-clause-uses : goal.returns-in-Go-clause-uses
returns-in-Go-clause-uses g c = uses_of c.args.parts.now.tables c.take_go.new.parts.tables c.args.context c.args.ready.now _ c.in-Go.is (λ at stands. uses_none c.args.parts.now.tables c.take_go.new.parts.tables (call_site c.args.context at) c.take_go.ensures.tables)

pub returns-in-Call-clause-uses : goal.returns-in-Call-clause-uses
returns-in-Call-clause-uses g c =
    let old = c.args.parts.now.tables in
    let new = c.take_call.new.parts.tables in
    uses_of old new c.args.context c.args.ready.now _ c.in-Call.is (λ at stands. subst (λ here. Uses (call_site c.args.context here) 1 1 0 old new) stands c.take_call.ensures.uses)

pub returns-in-Exit-clause-uses : goal.returns-in-Exit-clause-uses
returns-in-Exit-clause-uses g c = uses_of c.args.parts.now.tables c.take_exit.new.parts.tables c.args.context c.args.ready.now _ c.in-Exit.is (λ at stands. c.take_exit.ensures.uses (call_site c.args.context at))

pub returns-in-Mark-clause-uses : goal.returns-in-Mark-clause-uses
returns-in-Mark-clause-uses g c = uses_of c.args.parts.now.tables c.take_mark.new.parts.tables c.args.context c.args.ready.now _ c.in-Mark.is (λ at stands. uses_none c.args.parts.now.tables c.take_mark.new.parts.tables (call_site c.args.context at) c.take_mark.ensures.tables)
