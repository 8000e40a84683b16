use Rattle.edge_store.proofs.Stored.{empty_store}
use Rattle.edge_store.proofs.store.EdgeStore.new.Goals as goal

pub invariant_of-result : goal.invariant_of-result
invariant_of-result g c = rw c.new-2.ensures.items (empty_store c.new.result c.new.ensures.facts c.new.ensures.counts c.new.ensures.used)
