use Rattle.std.proofs.Common.{◌≡◌, ◌≤◌, ◌<◌, ℕ, get_or}
use Rattle.entry_tables.specs.Lists.{KeepsRoom}
use Rattle.entry_tables.specs.Rows.{IsEven}
use Rattle.entry_tables.proofs.rows.EntryRows.raise.Given as goal

abbrev pub invariant-loop-at : goal.invariant-loop-at
invariant-loop-at g l = record {
  same : l.self.lists ≡ l.fn.self.lists;
  even : IsEven l.self;
  kept : KeepsRoom l.fn.self.rooms l.self.rooms;
  raised : (k : ℕ) → l.from ≤ k → k < l.at → l.more ≤ get_or l.self.rooms k 0;
}
