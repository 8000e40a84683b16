use Rattle.std.proofs.Common.{◌∙◌, ℕ, List, length, ap, sym, subst}
use Rattle.clean_base.specs.Lists.{At}
use Rattle.program_code.specs.App.{locals_of}
use Rattle.app_program.proofs.Targets.{targets_methods}
use Rattle.app_program.proofs.code_lists.lists_of.Goals as goal

pub lists_of_graph-requires-clause-methods : goal.lists_of_graph-requires-clause-methods
lists_of_graph-requires-clause-methods c = targets_methods c.args.table.now c.args.lists.now c.in_ok-seen.seen.views c.in_ok-seen.seen.targets c.in_ok-seen.ensures.seen

pub returns : goal.returns
returns c =
    let locals = c.in_ok-locals.ensures in
    let graph = c.in_ok-graph.ensures in
    record {
      all_seen = c.in_ok-seen.ensures.all;
      seen = c.in_ok-seen.ensures.seen;
      counted = ap (λ (ns : List ℕ). length ns) c.from_vec.ensures ∙ locals.count;
      locals = λ m class k at. subst (λ (ns : List ℕ). At ns m.0 (length (locals_of k))) (sym c.from_vec.ensures) (locals.each m class k at);
      statements = graph.statements;
      returns = graph.returns;
      throws = graph.throws;
      reach = graph.reach;
    }
