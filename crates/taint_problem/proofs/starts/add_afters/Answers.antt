use Rattle.std.proofs.Common.{◌≡◌, arith}
use Rattle.clean_base.specs.declared.ids.StmtId.{StmtId}
use Rattle.ifds_model.specs.declared.node.Node.{Node}
use Rattle.flow_rules.specs.Machine.{after}
use Rattle.taint_problem.proofs.Sets.{one_more, all_done, pushed}
use Rattle.taint_problem.proofs.starts.add_afters.Goals as goal

pub loop-stmt-preserved : goal.loop-stmt-preserved
loop-stmt-preserved c = one_more c.args.stmts.now c.loop-stmt.stmt-index _ (λ (s : StmtId) (n : Node). n ≡ after s) _ _ _ (omega arith) c.loop-stmt.invariant (pushed _ _ _ c.in_ok-push.ensures.items)

pub returns : goal.returns
returns c = all_done c.args.stmts.now c.loop-stmt.stmt-index (λ (s : StmtId) (n : Node). n ≡ after s) _ _ c.loop-stmt-test.false c.loop-stmt.invariant
