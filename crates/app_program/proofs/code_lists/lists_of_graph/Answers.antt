use Rattle.std.proofs.Common.{List, sym, subst}
use Rattle.jimple_tree.specs.declared.tree.Class.{Class}
use Rattle.program_code.specs.Views.{Raises}
use Rattle.app_program.specs.Ends.{AreMethodsOf, Gives}
use Rattle.app_program.proofs.Ending.{ends_as}
use Rattle.app_program.proofs.code_lists.lists_of_graph.Goals as goal

pub reach_of-requires-clause-methods : goal.reach_of-requires-clause-methods
reach_of-requires-clause-methods c = subst (λ (cs : List Class). AreMethodsOf cs c.args.seen.now.targets) (sym c.in_ok-graph.ensures) c.requires.methods

pub returns-clause-returns : goal.returns-clause-returns
returns-clause-returns c =
    ends_as c.args.table.now c.in_ok-graph.graph c.args.seen.now.views c.as_slice.result.now Gives c.in_ok-returns.returns c.in_ok-graph.ensures c.as_slice.ensures c.in_ok-returns.ensures

pub returns-clause-throws : goal.returns-clause-throws
returns-clause-throws c =
    ends_as c.args.table.now c.in_ok-graph.graph c.args.seen.now.views c.as_slice-2.result.now Raises c.in_ok-throws.throws c.in_ok-graph.ensures c.as_slice-2.ensures c.in_ok-throws.ensures
