use Rattle.std.proofs.Common.{arith, ap, subst}
use Rattle.clean_base.specs.Lists.{At}
use Rattle.clean_base.specs.declared.ids.MethodId.{MethodId}
use Rattle.clean_base.specs.declared.ids.StmtId.{StmtId}
use Rattle.program_code.proofs.Places.{one_at}
use Rattle.program_code.proofs.program.Program.place_of.Goals as goal

pub overflow_sub-result : goal.overflow_sub-result
overflow_sub-result c = c.first.ensures.before c.args.s c.method_of.ensures.here

pub returns : goal.returns
returns c = λ first at.
    let firsts = c.args.self.now.code.firsts in
    let here = subst (λ (m : MethodId). At firsts m.0 c.first.result) c.method_of.ensures.is c.first.ensures.is in
    let same = one_at firsts _ c.first.result first here at in
    let below = c.first.ensures.before c.args.s c.method_of.ensures.here in
    omega (arith, below, ap (λ (s : StmtId). s.0) same)
