use Rattle.entry_tables.proofs.Listed.{distinct_added}
use Rattle.entry_tables.specs.Kept.{items_of}
use Rattle.entry_tables.proofs.entries.Entries.add.Goals as goal

pub invariant_of-self : goal.invariant_of-self
invariant_of-self g c = distinct_added (items_of c.self.inside.kept) (items_of c.add.new.self) c.args.item c.add.result c.self.invariant c.add.ensures.is_new c.add.ensures.added c.add.ensures.same
