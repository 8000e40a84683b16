use Rattle.std.proofs.Common.{◌+◌, ℕ, List, sym, subst, arith}
use Rattle.clean_base.specs.Lists.{At}
use Rattle.jimple_tree.specs.Bodies.{all_stmts}
use Rattle.jimple_tree.specs.declared.tree.Class.{Class}
use Rattle.jimple_tree.specs.declared.tree.Method.{Method}
use Rattle.class_table.specs.Methods.{stmts_in}
use Rattle.statement_views.proofs.Seeing.{flat_at}
use Rattle.statement_views.proofs.seen.seen_in.Goals as goal

pub add_methods-requires-clause-next : goal.add_methods-requires-clause-next
add_methods-requires-clause-next c = λ p stmt at.
    let cs = c.args.table.now in
    let here = subst (λ (ms : List Method). At (all_stmts ms) p stmt) c.as_slice-methods.ensures at in
    let given = subst (λ (ks : List Class). At ks c.loop-class.class-index c.class-item.result) c.given-class-items.ensures.same (omega arith, sym c.class-item.is) in
    let stands = flat_at (λ (k : Class). all_stmts k.methods) cs c.loop-class.class-index c.class-item.result p stmt given here in
    subst (λ (n : ℕ). At (stmts_in cs) (n + p) stmt) (sym c.loop-class.invariant.more) stands
