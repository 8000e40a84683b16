use Rattle.std.proofs.Common.{◌≡◌}
use Rattle.ifds_model.specs.declared.node.Dir.TheVariants.{Backward}
use Rattle.ifds_model.specs.declared.node.Node.{Node}
use Rattle.clean_base.specs.declared.ids.StmtId.{StmtId}
use Rattle.flow_rules.specs.Machine.{after}
use Rattle.flow_rules.specs.Only.{OfEach}
use Rattle.clean_base.proofs.Appended.{appends_same_if}
use Rattle.taint_problem.specs.Moves.{StartsIn}
use Rattle.taint_problem.proofs.starts.add_ends.Goals as goal

pub returns : goal.returns
returns c =
    appends_same_if c.add_afters.result (OfEach c.ends.result.now (λ (s : StmtId) (n : Node). n ≡ after s)) (StartsIn c.args.program.now.code Backward c.args.m c.args.fact.now) _ _
    (λ n. let are = c.ends.ensures in (
      (λ is. (is.0, (are is.0).1 (is.1, is.2), is.3)),
      (λ is. let ends = (are is.0).0 is.1 in (is.0, ends.0, ends.1, is.2)),
    )) c.add_afters.ensures
