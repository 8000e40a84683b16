use Rattle.std.proofs.Common.{sym}
use Rattle.jimple_tree.specs.Exact.{same_sig, sigs_decide}
use Rattle.class_table.proofs.Once.{any_lacks}
use Rattle.call_graph.proofs.Knowing.{found_at}
use Rattle.call_graph.proofs.known.KnownSigs.know.Goals as goal

pub returns-in-Some-clause-at : goal.returns-in-Some-clause-at
returns-in-Some-clause-at c = found_at c.args.self.now.sigs.keys c.args.sig.now c.in-Some.place (sym c.in-Some.ensures.index)

pub add-requires-clause-new : goal.add-requires-clause-new
add-requires-clause-new c = any_lacks same_sig sigs_decide c.args.self.now.sigs.keys c.args.sig.now (sym c.in-None.ensures.found)
