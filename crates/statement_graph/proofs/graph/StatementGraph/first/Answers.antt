use Rattle.std.proofs.Common.{◌≡◌, ℕ, List, All, length, subst, sym, arith}
use Rattle.clean_base.specs.Lists.{At}
use Rattle.jimple_tree.specs.WellFormed.{IsWellFormed}
use Rattle.jimple_tree.specs.declared.tree.Class.{Class}
use Rattle.class_table.specs.Methods.{all_methods}
use Rattle.statement_graph.specs.Kept.{AreListed}
use Rattle.statement_graph.specs.Statements.{first_of}
use Rattle.statement_graph.proofs.Standing.{begins_own}
use Rattle.statement_graph.proofs.graph.StatementGraph.first.Goals as goal

pub returns : goal.returns
returns c =
    let cs = c.args.self.now in
    let firsts = c.self.inside.firsts.items in
    let owners = c.self.inside.owners.items in
    let (rows, are) = subst (λ (ds : List Class). (rows : List (List ℕ)) × AreListed ds (length (all_methods ds)) firsts owners rows) c.self.view_is c.self.invariant.listed in
    let formed = subst (All IsWellFormed) c.self.view_is c.self.invariant.well_formed in
    let s = c.index.result.now in
    let count = are.methods in
    let at : At firsts c.args.m.0 s = (omega (arith, count, c.requires), sym c.index.ensures) in
    let number : s.0 ≡ first_of cs c.args.m.0 = are.begins c.args.m.0 s at in
    record { number = number; stands = begins_own cs s c.args.m formed c.requires number }
