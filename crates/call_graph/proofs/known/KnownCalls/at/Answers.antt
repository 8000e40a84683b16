use Rattle.std.proofs.Common.{sym, subst}
use Rattle.clean_base.specs.Lists.{At}
use Rattle.jimple_tree.specs.declared.tree.Sig.{Sig}
use Rattle.call_graph.specs.Known.{IsKnown, Known, sigs_of}
use Rattle.call_graph.proofs.Knowing.{below_at, own_at}
use Rattle.call_graph.proofs.known.KnownCalls.at.Goals as goal

pub returns-in-Static : goal.returns-in-Static
returns-in-Static c =
    let s = c.self.inside in
    let k = c.index.result.now in
    subst (λ (known : Known). (sig : Sig) → At (sigs_of c.args.kind known) c.args.place sig → IsKnown known.classes known.lines c.args.kind sig k) c.self.view_is
    (own_at s.table.now s.lists.now s.own.sigs.keys s.below.sigs.keys s.own.known.items c.args.place k (sym c.index.ensures) c.args.kind c.in-Static.is c.self.invariant.0)

pub returns-in-Virtual : goal.returns-in-Virtual
returns-in-Virtual c =
    let s = c.self.inside in
    let k = c.index-in-Virtual.result.now in
    subst (λ (known : Known). (sig : Sig) → At (sigs_of c.args.kind known) c.args.place sig → IsKnown known.classes known.lines c.args.kind sig k) c.self.view_is
    (below_at s.table.now s.lists.now s.own.sigs.keys s.below.sigs.keys s.below.known.items c.args.place k (sym c.index-in-Virtual.ensures) c.args.kind c.in-Virtual.is c.self.invariant.1)
