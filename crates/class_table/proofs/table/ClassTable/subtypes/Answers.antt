use Rattle.std.proofs.Common.{ℕ, List, sym, subst, arith}
use Rattle.std.proofs.lemmas.Result.{IfOk-weaker}
use Rattle.jimple_tree.specs.declared.tree.Class.{Class}
use Rattle.class_table.specs.Hierarchy.{heading}
use Rattle.class_table.specs.Links.{AreRows}
use Rattle.class_table.proofs.Linked.{read_graph}
use Rattle.class_table.proofs.Readings.{marked_below}
use Rattle.class_table.proofs.table.ClassTable.subtypes.Goals as goal

pub below-requires-clause-graph : goal.below-requires-clause-graph
below-requires-clause-graph c = read_graph c.self.inside.classes.items heading c.self.inside.links.headings.items c.as_slice-headings.result.now c.self.invariant.linked.headings c.as_slice-headings.ensures.value

pub returns-clause-exact : goal.returns-clause-exact
returns-clause-exact c =
    let cs = c.args.self.now in
    let read = c.as_slice-headings.result.now in
    let are : AreRows cs heading read =
    subst (λ (l : List (List ℕ)). AreRows cs heading l) (sym c.as_slice-headings.ensures.value) (subst (λ (ds : List Class). AreRows ds heading c.self.inside.links.headings.items) c.self.view_is c.self.invariant.linked.headings) in
    let count = are.count in
    let below = c.requires in
    IfOk-weaker c.below.result _ _ (λ v marked. marked_below cs read are c.args.class v.items (omega (arith, count, below)) marked) c.below.ensures
