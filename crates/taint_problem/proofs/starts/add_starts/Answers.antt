use Rattle.std.proofs.Common.{◌≤◌, length, sym}
use Rattle.clean_base.proofs.Appended.{appends_none}
use Rattle.taint_problem.specs.Moves.{StartsIn}
use Rattle.taint_problem.proofs.Calling.{no_start}
use Rattle.taint_problem.proofs.starts.add_starts.Goals as goal

pub returns-then-context-methods : goal.returns-then-context-methods
returns-then-context-methods c =
    let code = c.args.program.now.code in
    let e = c.args.context.now in
    let past : length code.firsts ≤ e.method.0 = rw (sym c.methods.ensures) c.if-context-methods.true in
    appends_none (StartsIn code e.dir e.method e.fact) _ (no_start code c.requires e.dir e.method e.fact past)

pub returns-in-Forward : goal.returns-in-Forward
returns-in-Forward c = rw c.in-Forward.is c.add_first.ensures

pub returns-in-Backward : goal.returns-in-Backward
returns-in-Backward c = rw c.in-Backward.is c.add_ends.ensures
