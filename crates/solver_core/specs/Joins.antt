-- The joins of an exit with a caller, by numbers.
use Rattle.std.specs.Prelude.{ℕ}
use Rattle.clean_base.specs.declared.ids.StmtId.{StmtId}
use Rattle.entry_tables.specs.declared.tables.CallSite.{CallSite}
use Rattle.solver_core.specs.declared.pending.Pending.{Pending}
use Rattle.solver_core.specs.declared.pending.Pending.TheVariants.{Join as PendingJoin}

abbrev pub exit_join : {F : Type 0} → ℕ → F → CallSite → Pending F
exit_join callee exit k = PendingJoin k.caller k.call callee exit

abbrev pub call_join : {F : Type 0} → ℕ → StmtId → ℕ → F → Pending F
call_join caller at callee x = PendingJoin caller at callee x
