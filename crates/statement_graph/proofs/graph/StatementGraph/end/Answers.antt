use Rattle.std.proofs.Common.{◌≡◌, ◌+◌, ℕ, List, length, ap, subst, sym, ◌∙◌, arith}
use Rattle.clean_base.specs.Lists.{At}
use Rattle.clean_base.specs.declared.ids.StmtId.{StmtId}
use Rattle.jimple_tree.specs.declared.tree.Class.{Class}
use Rattle.class_table.specs.Methods.{all_methods}
use Rattle.statement_graph.specs.Kept.{AreListed}
use Rattle.statement_graph.specs.Statements.{first_of}
use Rattle.statement_graph.proofs.Standing.{end_within, own_below}
use Rattle.statement_graph.proofs.graph.StatementGraph.end.Goals as goal
use Rattle.statement_graph.proofs.graph.StatementGraph.end.Goals.{After-len, In-Some}

next_first : (c : In-Some) → c.in-Some.next.now.0 ≡ first_of c.args.self.now (c.args.m.0 + 1)
next_first c =
    let firsts = c.self.inside.firsts.items in
    let owners = c.self.inside.owners.items in
    let (rows, are) = subst (λ (cs : List Class). (rows : List (List ℕ)) × AreListed cs (length (all_methods cs)) firsts owners rows) c.self.view_is c.self.invariant.listed in
    let s = c.in-Some.next.now in
    let at : At firsts (c.args.m.0 + 1) s = subst (λ (ss : List StmtId). At ss (c.args.m.0 + 1) s) c.deref.ensures.value (c.in-Some.ensures.lookup.3.0, sym c.in-Some.ensures.lookup.1) in
    are.begins (c.args.m.0 + 1) s at

-- the last method ends where all statements do
last_end : (c : After-len) → c.len.result ≡ first_of c.args.self.now (c.args.m.0 + 1)
last_end c =
    let cs = c.args.self.now in
    let firsts = c.self.inside.firsts.items in
    let owners = c.self.inside.owners.items in
    let (rows, are) = subst (λ (ds : List Class). (rows : List (List ℕ)) × AreListed ds (length (all_methods ds)) firsts owners rows) c.self.view_is c.self.invariant.listed in
    let past = c.in-None.ensures.lookup.3 in
    let count = are.methods in
    let same = ap (λ (ss : List StmtId). length ss) c.deref.ensures.value in
    let last : length (all_methods cs) ≡ c.args.m.0 + 1 = omega (arith, past, count, same, c.requires) in
    let all : c.len.result ≡ length owners = let len = c.len.ensures in omega (arith, len, c.self.inside.owners.ok.0) in
    all ∙ are.owned ∙ ap (first_of cs) last

pub returns-in-Some-clause-within : goal.returns-in-Some-clause-within
returns-in-Some-clause-within c = end_within c.args.self.now c.args.m c.in-Some.next.now.0 (next_first c) c.requires

pub returns-in-Some-clause-own : goal.returns-in-Some-clause-own
returns-in-Some-clause-own c = own_below c.args.self.now c.args.m c.in-Some.next.now.0 (next_first c) c.requires

pub returns-in-None-clause-own : goal.returns-in-None-clause-own
returns-in-None-clause-own c = own_below c.args.self.now c.args.m c.len.result (last_end c) c.requires
