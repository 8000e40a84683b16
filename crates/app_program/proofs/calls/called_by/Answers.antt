use Rattle.std.proofs.Common.{◌≡◌, ◌≤◌, ℕ, subst, arith}
use Rattle.statement_graph.specs.Statements.{first_of, IsOf}
use Rattle.app_program.proofs.Calling.{Gained, gained_all, gained_more}
use Rattle.app_program.proofs.calls.called_by.Goals as goal

pub loop-s-preserved : goal.loop-s-preserved
loop-s-preserved c =
    let first = first_of c.args.graph.now c.args.m.0 in
    let from : first ≤ c.loop-s.s = let low = c.loop-s.auto.s in let begins = c.first-s.ensures.number in omega (arith, low, begins) in
    gained_more c.args.targets.now first c.loop-s.s c.row.result.now c.loop-s.called.items c.extend_from_slice.new.self.items from c.row.ensures c.loop-s.invariant c.in_ok-extend_from_slice.ensures.items

pub returns : goal.returns
returns c =
    let cs = c.args.graph.now in
    let m = c.args.m in
    let (class, method, body, stmt, is) = c.first-s.ensures.stands in
    let some : IsOf cs c.first-s.result m = (class, method, body, 0, stmt, is) in
    let own = c.end-s-end.ensures.own in
    let begins = c.first-s.ensures.number in
    let within = ((own c.first-s.result).0 some).1 in
    let past = c.loop-s-test.false in
    let below = c.loop-s.auto.s-end in
    let done : c.loop-s.s ≡ c.end-s-end.result = let most = below (omega (arith, within)) in omega (arith, past, most) in
    let gained = subst (λ (n : ℕ). Gained c.args.targets.now (first_of cs m.0) n c.loop-s.called.items) done c.loop-s.invariant in
    gained_all c.args.targets.now (first_of cs m.0) cs m c.end-s-end.result c.loop-s.called.items c.in_order.result.items own gained c.in_order.ensures.same
