use Rattle.std.proofs.Common.{◌≡◌, ◌≤◌, ◌<◌, ◌++◌, ◌-◌, max, [], ℕ, length, get_or, replicate}
use Rattle.entry_tables.specs.Lists.{KeepsRoom}
use Rattle.entry_tables.specs.Rows.{IsEven}
use Rattle.entry_tables.proofs.rows.EntryRows.prepare.Given as goal

abbrev pub invariant-loop : goal.invariant-loop
invariant-loop g l = record {
  lists : l.self.lists ≡ l.fn.self.lists ++ replicate (length l.self.lists - length l.fn.self.lists) [];
  longer : length l.fn.self.lists ≤ length l.self.lists;
  counted : l.counter ≡ length l.self.lists;
  few : length l.self.lists ≤ max l.count (length l.fn.self.lists);
  even : IsEven l.self;
  kept : KeepsRoom l.fn.self.rooms l.self.rooms;
  room : (k : ℕ) → length l.fn.self.lists ≤ k → k < length l.self.lists → l.room ≤ get_or l.self.rooms k 0;
}
