use Rattle.std.proofs.Common.{sym, ◌∙◌}
use Rattle.jimple_tree.specs.Exact.{params_decide, not_false}
use Rattle.jimple_tree.proofs.tree.Method.is_named.Goals as goal

pub returns-then-eq : goal.returns-then-eq
returns-then-eq c =
    let m = c.args.self.now in
    params_decide c.args.sig.now (record { class = c.args.class.now; result = m.result; name = m.name; params = m.params }) c.eq-then-eq.result
    (not_false _ (sym c.ne.ensures ∙ c.if-ne.false)) (not_false _ (sym c.ne-else-ne.ensures ∙ c.if-ne-2.false)) (sym c.eq.ensures ∙ c.if-eq.true) c.eq-then-eq.ensures
