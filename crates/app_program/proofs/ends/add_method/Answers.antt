use Rattle.std.proofs.Common.{◌≡◌, ◌≤◌, ◌+◌, ◌∙◌, true≢false, ℕ, sym, subst, arith}
use Rattle.clean_base.specs.Lists.{At}
use Rattle.statement_graph.specs.Statements.{first_of, IsOf}
use Rattle.app_program.specs.Ends.{EndsSo}
use Rattle.app_program.proofs.Ending.{Grown, grown_all, grown_more, grown_past}
use Rattle.app_program.proofs.ends.add_method.Goals as goal
use Rattle.app_program.proofs.ends.add_method.Goals.{then-ends+in_ok-add, else-ends}

pub loop-s-preserved : goal.loop-s-preserved
loop-s-preserved c =
    let old = c.args.rows.now in
    let views = c.args.views.now in
    let Is = EndsSo c.args.end in
    let first = first_of c.args.graph.now c.args.m.0 in
    let at = c.loop-s.s in
    let view = c.index-views-s.result in
    let from : first ≤ at = let low = c.loop-s.auto.s in let begins = c.first-s.ensures.number in omega (arith, low, begins) in
    let there : At views at view = (let less = c.loop-s-test.true in let within = c.end-s-end.ensures.within in let long = c.requires.views in omega (arith, less, within, long), sym c.index-views-s.is) in
    elim c.if-ends.branch [
      | then-ends+in_ok-add w ↦
          subst (Grown old views Is first (at + 1)) (sym w.rows-is) (grown_more old views Is first at view c.loop-s.rows w.add.new.self from there (c.ends.ensures.0 w.if-ends.true) c.loop-s.invariant w.in_ok-add.ensures)
      | else-ends w ↦
          subst (Grown old views Is first (at + 1)) (sym w.rows-is) (grown_past old views Is first at view c.loop-s.rows there (λ seen. true≢false (sym (c.ends.ensures.1 seen) ∙ w.if-ends.false)) c.loop-s.invariant)
    ]

pub returns : goal.returns
returns c =
    let cs = c.args.graph.now in
    let m = c.args.m in
    let begins = c.first-s.ensures.number in
    let (class, method, body, stmt, is) = c.first-s.ensures.stands in
    let some : IsOf cs c.first-s.result m = (class, method, body, 0, stmt, is) in
    let own = c.end-s-end.ensures.own in
    let within = ((own c.first-s.result).0 some).1 in
    let past = c.loop-s-test.false in
    let below = c.loop-s.auto.s-end in
    let done : c.loop-s.s ≡ c.end-s-end.result = let most = below (omega (arith, within)) in omega (arith, past, most) in
    let grown = subst (λ (n : ℕ). Grown c.args.rows.now c.args.views.now (EndsSo c.args.end) (first_of cs m.0) n c.loop-s.rows) done c.loop-s.invariant in
    grown_all c.args.rows.now c.args.views.now (EndsSo c.args.end) (first_of cs m.0) cs m c.end-s-end.result c.loop-s.rows own c.requires.rows grown
