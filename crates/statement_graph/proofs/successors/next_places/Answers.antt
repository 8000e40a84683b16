use Rattle.std.proofs.Common.{◌↔◌, ℕ, List, Contains, length, refl, sym, subst, ap, arith}
use Rattle.jimple_tree.specs.declared.tree.Stmt.{Stmt}
use Rattle.statement_graph.proofs.Places.{next_of}
use Rattle.statement_graph.proofs.successors.next_places.Goals as goal

pub returns-clause-exact : goal.returns-clause-exact
returns-clause-exact c =
    let stmts = c.as_slice-stmts.result.now in
    let long = ap (λ (ss : List Stmt). length ss) c.as_slice-stmts.ensures in
    let same : (t : ℕ) → Contains c.into_vec.result.items t ↔ Contains c.add_handlers.new.places t = λ t. subst (λ (xs : List ℕ). Contains xs t ↔ Contains c.add_handlers.new.places t) (sym c.into_vec.ensures) (c.sort.ensures.same t) in
    next_of c.args.body.now stmts c.as_slice.result.now c.args.place (length stmts) c.index-stmts-at.result c.in_ok-places.places c.add_handlers.new.places c.into_vec.result.items
    c.as_slice-stmts.ensures c.as_slice.ensures refl (omega (arith, long, c.requires.place)) c.index-stmts-at.is c.in_ok-places.ensures c.in_ok-add_handlers.ensures same
