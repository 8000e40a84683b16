use Rattle.std.proofs.Common.{◌≤◌, OnOk, subst, sym, ℕ}
use Rattle.entry_tables.proofs.Listed.{lists_same, room_kept, room_is}
use Rattle.entry_tables.proofs.rows.EntryRows.reserve.Goals as goal

pub returns-clause-same : goal.returns-clause-same
returns-clause-same g c = rw (← c.self.view_is) (lists_same c.self.inside.rows.items c.args.at c.index_mut.result.now c.reserve.new.self c.index_mut.ensures.value (rw (← c.self.view_is) at c.requires) c.reserve.ensures.same)

pub returns-clause-kept : goal.returns-clause-kept
returns-clause-kept g c = rw (← c.self.view_is) (room_kept c.self.inside.rows.items c.args.at c.index_mut.result.now c.reserve.new.self c.index_mut.ensures.value (rw (← c.self.view_is) at c.requires) c.reserve.ensures.kept)

pub returns-clause-ok : goal.returns-clause-ok
returns-clause-ok g c = subst (λ (n : ℕ). OnOk c.reserve.result (c.args.more ≤ n)) (sym (room_is c.self.inside.rows.items c.args.at c.index_mut.result.now c.reserve.new.self c.index_mut.ensures.value (rw (← c.self.view_is) at c.requires))) c.reserve.ensures.ok
