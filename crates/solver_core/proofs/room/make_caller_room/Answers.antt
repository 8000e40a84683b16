use Rattle.std.proofs.Common.{subst, sym}
use Rattle.solver_core.specs.Room.{HasCallerRoom}
use Rattle.solver_core.proofs.Gathered.{on_ok}
use Rattle.solver_core.proofs.Prepared.{caller_room}
use Rattle.solver_core.proofs.room.make_caller_room.Goals as goal

pub returns-clause-room : goal.returns-clause-room
returns-clause-room g c =
    let tables = c.reserve_entries.new.self in
    on_ok c.reserve_entries.result _ (HasCallerRoom tables c.args.context c.args.step)
    (λ room. subst (λ m. HasCallerRoom tables c.args.context m) (sym c.in-Call.is) (caller_room c.args.tables.now tables c.in-Call.callee c.in-Some.number c.args.context c.in-Call.at c.reserve_entries.ensures.same.0 c.requires.distinct c.in-Some.ensures.there room))
    c.reserve_entries.ensures.callers
