-- Where the statements of all bodies stand, and that they are well formed.
use Rattle.std.proofs.Common.{◌≡◌, ◌+◌, ◌∷◌, ◌++◌, ℕ, cond, is_some, Option, Some, None, List, [], All, map, flat_map, refl, sym, ap, ◌∙◌, subst}
use Rattle.std.proofs.lemmas.Grind.{flat_map-append}
use Rattle.std.proofs.lemmas.List.Elements.{All-contains}
use Rattle.clean_base.specs.Lists.{At}
use Rattle.clean_base.specs.declared.ids.MethodId.{MethodId}
use Rattle.clean_base.specs.declared.ids.StmtId.{StmtId}
use Rattle.jimple_tree.specs.Bodies.{all_stmts, bodied, body_stmts, stmts_of}
use Rattle.jimple_tree.specs.WellFormed.{BodyFits, IsWellFormed, MethodFits, OptionalBodyFits, StmtFits}
use Rattle.jimple_tree.specs.declared.tree.Body.{Body}
use Rattle.jimple_tree.specs.declared.tree.Class.{Class}
use Rattle.jimple_tree.specs.declared.tree.Method.{Method}
use Rattle.jimple_tree.specs.declared.tree.Stmt.{Stmt}
use Rattle.class_table.specs.Methods.{all_methods, methods_of, stmts_in, IsNumber}
use Rattle.class_table.proofs.Numbers.{number_from}
use Rattle.class_table.proofs.Picked.{flat_at}
use Rattle.statement_graph.specs.Statements.{first_of, IsStmt}

abbrev own_stmts : Class × Method → List Stmt
own_stmts k = stmts_of k.1

abbrev paired : Class → List Method → List (Class × Method)
paired c ms = map (λ (m : Method). (c, m)) ms

-- methods without a body have no statements
class_stmts : (c : Class) (ms : List Method) → flat_map own_stmts (paired c (bodied ms)) ≡ all_stmts ms
class_stmts c [] = refl
class_stmts c (m ∷ ms) = by m.body refl (class_stmts c ms) where
  by : (body : Option Body) → m.body ≡ body → flat_map own_stmts (paired c (bodied ms)) ≡ all_stmts ms
      → flat_map own_stmts (paired c (bodied (m ∷ ms))) ≡ all_stmts (m ∷ ms)
  by None is rest =
      ap (λ (body : Option Body). flat_map own_stmts (paired c (cond (is_some body) (m ∷ bodied ms) (bodied ms)))) is
      ∙ rest
      ∙ ap (λ (body : Option Body). body_stmts body ++ all_stmts ms) (sym is)
  by (Some b) is rest =
      ap (λ (body : Option Body). flat_map own_stmts (paired c (cond (is_some body) (m ∷ bodied ms) (bodied ms)))) is
      ∙ ap (λ (ss : List Stmt). stmts_of m ++ ss) rest

each_class : (cs : List Class) → flat_map own_stmts (all_methods cs) ≡ stmts_in cs
each_class [] = refl
each_class (c ∷ cs) =
    flat_map-append own_stmts (methods_of c) (all_methods cs)
    ∙ ap (λ (ss : List Stmt). ss ++ flat_map own_stmts (all_methods cs)) (class_stmts c c.methods)
    ∙ ap (λ (ss : List Stmt). all_stmts c.methods ++ ss) (each_class cs)

-- the statement of a body stands among all under its number
pub stmt_placed : (cs : List Class) (s : StmtId) (m : MethodId) (c : Class) (k : Method) (b : Body) (p : ℕ) (stmt : Stmt)
    → IsStmt cs s m c k b p stmt → At (stmts_in cs) s.0 stmt
stmt_placed cs s m c k b p stmt is =
    let here : At (stmts_of k) p stmt = subst (λ (body : Option Body). At (body_stmts body) p stmt) (sym is.body) is.place in
    let there : At (flat_map own_stmts (all_methods cs)) (first_of cs m.0 + p) stmt = flat_at own_stmts (all_methods cs) m.0 (c, k) p stmt is.method here in
    subst (λ (n : ℕ). At (stmts_in cs) n stmt) (sym is.number) (subst (λ (ss : List Stmt). At ss (first_of cs m.0 + p) stmt) (each_class cs) there)

-- a method with a number is well formed, and so are its statements
pub method_fits : (cs : List Class) (m : MethodId) (c : Class) (k : Method) → All IsWellFormed cs → IsNumber cs m c k → MethodFits k
method_fits cs m c k formed at =
    let (p, j, stands, there, some, number) = number_from cs m.0 c k at in
    let class = All-contains IsWellFormed cs c formed (p, stands.0, stands.1) in
    All-contains MethodFits c.methods k class.each_method (j, there.0, there.1)

pub stmt_fits : (cs : List Class) (s : StmtId) (m : MethodId) (c : Class) (k : Method) (b : Body) (p : ℕ) (stmt : Stmt)
    → All IsWellFormed cs → IsStmt cs s m c k b p stmt → StmtFits b stmt
stmt_fits cs s m c k b p stmt formed is =
    let fits : BodyFits b = subst OptionalBodyFits is.body (method_fits cs m c k formed is.method).body in
    All-contains (StmtFits b) b.stmts stmt fits.stmts (p, is.place.0, is.place.1)
