use Rattle.std.proofs.Common.{List, ℕ, [], ◌∷◌, ◌++◌, length, get_or, ap, ◌∙◌, arith}
use Rattle.std.proofs.lemmas.List.{length-set}
use Rattle.statement_graph.proofs.Gathered.{handled_more, handled_all}
use Rattle.statement_graph.proofs.bodies.add_catch.Goals as goal

pub loop-at-preserved : goal.loop-at-preserved
loop-at-preserved c =
    let at = c.loop-at.at in
    let old = c.loop-at.lists in
    record {
      len = ap (λ (ls : List (List ℕ)). length ls) c.in_ok-add_at.ensures ∙ length-set old at (get_or old at [] ++ c.args.catch.now.with ∷ []) ∙ c.loop-at.invariant.len;
      early = λ down. omega (arith, down, c.loop-at.auto.at, c.loop-at-test.true);
      handled = handled_more c.args.catch.now c.args.lists.now old c.add_at.new.lists at c.loop-at.auto.at (omega (arith, c.requires, c.loop-at-test.true)) c.loop-at.invariant.len c.in_ok-add_at.ensures c.loop-at.invariant.handled;
    }

pub returns : goal.returns
returns c = handled_all c.args.catch.now c.args.lists.now c.loop-at.lists c.loop-at.at c.loop-at-test.false c.loop-at.auto.at-end c.loop-at.invariant.early c.loop-at.invariant.handled
