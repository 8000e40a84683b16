use Rattle.std.proofs.Common.{arith}
use Rattle.jimple_words.specs.declared.kind.Kind.TheVariants as kinds
use Rattle.jimple_grammar.specs.Forms.{sign, bracket_pair}
use Rattle.jimple_grammar.proofs.Shrink.{shrinks}
use Rattle.jimple_grammar.proofs.cursor.Cursor.member_type.Goals as goal

pub overflow_add-result : goal.overflow_add-result
overflow_add-result c =
    let a = shrinks (sign kinds.Further) c.args.self.now.left.now (c.in_ok-base-2.base, c.take.new.self.left.now) c.in_ok-base-2.ensures in
    let b = shrinks bracket_pair c.take.new.self.left.now (c.in_ok-bracket_pair.field-0, c.bracket_pair.new.self.left.now) c.in_ok-bracket_pair.ensures in
    let s = c.in_ok-dims-2.ensures.small in
    omega (arith, a, b, s)
