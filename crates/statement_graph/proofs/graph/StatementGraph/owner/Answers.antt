use Rattle.std.proofs.Common.{ℕ, List, length, subst, sym, arith}
use Rattle.clean_base.specs.Lists.{At}
use Rattle.jimple_tree.specs.declared.tree.Class.{Class}
use Rattle.class_table.specs.Methods.{all_methods}
use Rattle.statement_graph.specs.Kept.{AreListed}
use Rattle.statement_graph.proofs.Ends.{owner_exact, owners_all, stands_at}
use Rattle.flat_rows.specs.Converse.{row}
use Rattle.statement_graph.proofs.graph.StatementGraph.owner.Goals as goal

pub returns : goal.returns
returns c =
    let cs = c.args.self.now in
    let firsts = c.self.inside.firsts.items in
    let owners = c.self.inside.owners.items in
    let (rows, are) = subst (λ (ds : List Class). (rows : List (List ℕ)) × AreListed ds (length (all_methods ds)) firsts owners rows) c.self.view_is c.self.invariant.listed in
    let m = c.index.result.now in
    let all = owners_all cs firsts owners rows are in
    let at : At owners c.args.s.0 m = (omega (arith, all, c.requires), sym c.index.ensures) in
    owner_exact cs c.args.s m (row rows c.args.s.0) (stands_at cs firsts owners rows are c.args.s.0 m at).1
