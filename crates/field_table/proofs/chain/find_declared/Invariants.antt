use Rattle.std.proofs.Common.{◌≡◌, ◌-◌}
use Rattle.std.specs.List.{find}
use Rattle.field_table.specs.Chains.{upwards, declares, declarer}
use Rattle.field_table.proofs.chain.find_declared.Given as goal

abbrev pub invariant-loop : goal.invariant-loop
invariant-loop l = declarer l.table l.sig ≡ find (declares l.table l.sig) (upwards l.table (l.most - l.counter) l.class)
