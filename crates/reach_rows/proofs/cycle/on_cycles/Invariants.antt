use Rattle.std.proofs.Common.{◌≡◌, length}
use Rattle.reach_rows.specs.Cycles.{AreToldFrom, IsTaken, IsWhole}
use Rattle.reach_rows.proofs.cycle.on_cycles.Given as goal

abbrev pub invariant-loop-passed : goal.invariant-loop-passed
invariant-loop-passed l = record {
  whole : IsWhole l.backs.items l.flood.seen.items l.flood.waiting.items;
  taken : IsTaken l.rows l.order l.passed l.flood.seen.items;
  count : length l.told.items ≡ length l.rows;
  told : AreToldFrom l.rows l.order l.passed l.told.items;
}
