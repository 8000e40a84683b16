use Rattle.class_table.specs.Hierarchy.{heading}
use Rattle.class_table.proofs.Linked.{is_graph, acyclic, first_cycle}
use Rattle.class_table.proofs.links.order_of.Goals as goal

pub order-requires-clause-graph : goal.order-requires-clause-graph
order-requires-clause-graph c = is_graph c.args.classes.now heading c.args.headings.now c.requires.headings

pub returns-in-Ok-clause-acyclic : goal.returns-in-Ok-clause-acyclic
returns-in-Ok-clause-acyclic c = acyclic c.args.classes.now c.args.headings.now c.requires.headings c.requires.distinct c.in-Ok.ensures.acyclic

pub cycle-requires-clause-cycle : goal.cycle-requires-clause-cycle
cycle-requires-clause-cycle c =
    first_cycle c.args.classes.now c.args.headings.now c.requires.headings c.requires.distinct c.in-Err-Cycle.number (rw c.in-Err-Cycle.field-0-is at c.in-Err-Cycle.ensures.cycle)
