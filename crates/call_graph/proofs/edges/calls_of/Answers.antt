use Rattle.std.proofs.Common.{◌≡◌, ◌↔◌, List, Contains, length, ap, arith, subst}
use Rattle.std.proofs.lemmas.Result.{IfOk-weaker}
use Rattle.clean_base.specs.declared.ids.MethodId.{MethodId}
use Rattle.jimple_tree.specs.declared.tree.Class.{Class}
use Rattle.jimple_tree.specs.declared.tree.Stmt.{Stmt}
use Rattle.source_sink.specs.declared.line.Line.{Line}
use Rattle.call_graph.specs.Floods.{IsCallIn}
use Rattle.call_graph.specs.declared.edges.CallEdge.{CallEdge}
use Rattle.call_graph.proofs.Listing.{few_stmts, listed_calls, targets_within}
use Rattle.call_graph.proofs.edges.calls_of.Goals as goal

-- what is said of the classes that are known is said of the table's
in_table : {cs ds : List Class} (lines : List Line) (caller : MethodId) (stmts : List Stmt) (edges : List CallEdge) → cs ≡ ds
    → ((e : CallEdge) → Contains edges e ↔ IsCallIn cs lines caller stmts e) → (e : CallEdge) → Contains edges e ↔ IsCallIn ds lines caller stmts e
in_table lines caller stmts edges same exact = subst (λ (cs : List Class). (e : CallEdge) → Contains edges e ↔ IsCallIn cs lines caller stmts e) same exact

pub calls_in-requires : goal.calls_in-requires
calls_in-requires c =
    let few = few_stmts c.args.table.now c.args.caller.0 c.method.ensures.0 c.method.result.now c.in-Some.body c.method.ensures.1 c.in-Some.is in
    let most = c.given-given.ensures.table.stmts in
    let long = ap (λ (ss : List Stmt). length ss) c.as_slice.ensures in
    omega (arith, few, most, long)

pub returns-in-Some-clause-exact : goal.returns-in-Some-clause-exact
returns-in-Some-clause-exact c =
    IfOk-weaker c.calls_in.result _ _
    (λ v exact. listed_calls c.args.table.now c.args.known.now.lines c.args.caller c.method.ensures.0 c.method.result.now c.in-Some.body c.as_slice.result.now v.items c.method.ensures.1 c.in-Some.is c.as_slice.ensures (in_table c.args.known.now.lines c.args.caller c.as_slice.result.now v.items c.requires.table exact))
    c.calls_in.ensures.exact

pub returns-in-Some-clause-within : goal.returns-in-Some-clause-within
returns-in-Some-clause-within c =
    IfOk-weaker c.calls_in.result _ _
    (λ v exact. targets_within c.args.table.now c.args.known.now.lines v.items (λ e has.
    ((listed_calls c.args.table.now c.args.known.now.lines c.args.caller c.method.ensures.0 c.method.result.now c.in-Some.body c.as_slice.result.now v.items c.method.ensures.1 c.in-Some.is c.as_slice.ensures (in_table c.args.known.now.lines c.args.caller c.as_slice.result.now v.items c.requires.table exact) e).0 has).1))
    c.calls_in.ensures.exact
