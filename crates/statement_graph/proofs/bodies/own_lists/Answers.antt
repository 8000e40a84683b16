use Rattle.std.proofs.Common.{List, ℕ, [], ◌∷◌, length, refl, ap, arith}
use Rattle.std.proofs.lemmas.List.{length-append}
use Rattle.statement_graph.proofs.Gathered.{own_more}
use Rattle.statement_graph.proofs.bodies.own_lists.Goals as goal

pub loop-at-preserved : goal.loop-at-preserved
loop-at-preserved c =
    let list = c.in_ok-own_places.field-0 in
    record {
      len =
          let e = ap (λ (ls : List (List ℕ)). length ls) c.in_ok-push.ensures.items in
          let m = length-append c.loop-at.lists.items (list ∷ []) in
          omega (arith, e, m, c.loop-at.invariant.len);
      own = own_more c.args.stmts.now (length c.args.stmts.now) c.loop-at.at c.loop-at.lists.items c.push.new.self.items list c.index-stmts-at.result refl c.loop-at-test.true c.index-stmts-at.is
          c.loop-at.invariant.len c.loop-at.invariant.own c.in_ok-own_places.ensures c.in_ok-push.ensures.items;
    }

pub returns-clause-own : goal.returns-clause-own
returns-clause-own c s t stmt at = c.loop-at.invariant.own s t stmt (let below = at.0 in omega (arith, below, c.loop-at-test.false)) at
