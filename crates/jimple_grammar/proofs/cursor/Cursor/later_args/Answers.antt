use Rattle.std.proofs.Common.{arith, ◌+◌, ◌-◌, [], ◌∷◌, ◌++◌, append_assoc}
use Rattle.std.proofs.lemmas.Result.{err_from_is_err_and}
use Rattle.jimple_grammar.specs.declared.raw.RawImm.{RawImm}
use Rattle.jimple_grammar.specs.Reading.{reading}
use Rattle.jimple_grammar.specs.Grammar.{times}
use Rattle.jimple_grammar.specs.Forms.{next_imm}
use Rattle.jimple_grammar.proofs.Loops.{counted_on, counted_fails}
use Rattle.jimple_grammar.proofs.cursor.Cursor.later_args.Goals as goal

pub returns-in_err-next : goal.returns-in_err-next
returns-in_err-next c =
    let p = err_from_is_err_and c.from_residual.result c.from_residual.ensures.1 in
    rw (p.1, p.2) (counted_fails next_imm (reading (times c.args.count next_imm) c.args.self.now.left.now) c.loop.invariant.pieces (c.args.count - c.loop.counter) (c.args.count - (c.loop.counter + 1)) c.loop.self.left.now c.in_err-next.field-0.0 c.loop.invariant.goes (let less = c.loop-test.true in omega (arith, less)) c.in_err-next.ensures)

pub loop-preserved : goal.loop-preserved
loop-preserved c =
    let x : RawImm = c.in_ok-next.next in
    record {
      pieces = c.loop.invariant.pieces ++ x ∷ [];
      are = let e = c.loop.invariant.are in rw (c.in_ok-push.ensures.items, e) (append_assoc c.args.args.now.items c.loop.invariant.pieces (x ∷ []));
      goes = counted_on next_imm (reading (times c.args.count next_imm) c.args.self.now.left.now) c.loop.invariant.pieces (c.args.count - c.loop.counter) (c.args.count - (c.loop.counter + 1)) c.loop.self.left.now (x, c.next_imm.new.self.left.now) c.loop.invariant.goes c.in_ok-next.ensures (let less = c.loop-test.true in omega (arith, less));
    }
