use Rattle.std.proofs.Common.{[], ◌∷◌, ◌++◌, map, ap, sym, ◌∙◌, List}
use Rattle.std.specs.Global.{Vec}
use Rattle.std.proofs.lemmas.Result.{err_from_is_err_and}
use Rattle.jimple_tree.specs.declared.tree.Stmt.{Stmt}
use Rattle.jimple_grammar.specs.declared.raw.RawItem.TheVariants as items
use Rattle.jimple_names.specs.Scope.{items_of, stmts_of}
use Rattle.jimple_names.specs.Tree.{stmt_of}
use Rattle.jimple_names.specs.Faults.{in_turn, item_fault, stmt_fault}
use Rattle.jimple_names.specs.Resolving.{seen}
use Rattle.jimple_names.specs.Walking.{front_of}
use Rattle.jimple_names.proofs.Stops.{named_stopped, stopped_named, stop_first, stop_second, stop_third, no_fault}
use Rattle.jimple_names.proofs.Walks.{whole_fault, whole_stmts}
use Rattle.jimple_names.proofs.bodies.stmts.Goals as goal

pub returns-in_err-check_labels : goal.returns-in_err-check_labels
returns-in_err-check_labels c =
    let p = err_from_is_err_and c.from_residual.result c.from_residual.ensures.1 in
    let r = c.args.resolver.now in
    let s = seen r.names.locals.now r.names.labels.now r.count in
    let k = c.args.code.now in
    let e = c.in_err-check_labels.field-0.0 in
    rw (p.1, p.2) (stopped_named (λ (v : Vec Stmt). v.items) e (map (stmt_of r.bytes.now s) (stmts_of (items_of k))) (in_turn (item_fault r.bytes.now s) [] (items_of k))
    (stop_first (in_turn (item_fault r.bytes.now s) [] (map items.Label k.labels)) (stmt_fault r.bytes.now s k.front) (in_turn (item_fault r.bytes.now s) (front_of k) k.rest) (in_turn (item_fault r.bytes.now s) [] (items_of k)) (whole_fault r.bytes.now s k c.requires.labels) e c.in_err-check_labels.ensures))

pub returns-in_err-front : goal.returns-in_err-front
returns-in_err-front c =
    let p = err_from_is_err_and c.from_residual-in_err-front.result c.from_residual-in_err-front.ensures.1 in
    let r = c.args.resolver.now in
    let s = seen r.names.locals.now r.names.labels.now r.count in
    let k = c.args.code.now in
    let e = c.in_err-front.field-0.0 in
    rw (p.1, p.2) (stopped_named (λ (v : Vec Stmt). v.items) e (map (stmt_of r.bytes.now s) (stmts_of (items_of k))) (in_turn (item_fault r.bytes.now s) [] (items_of k))
    (stop_second (in_turn (item_fault r.bytes.now s) [] (map items.Label k.labels)) (stmt_fault r.bytes.now s k.front) (in_turn (item_fault r.bytes.now s) (front_of k) k.rest) (in_turn (item_fault r.bytes.now s) [] (items_of k)) (whole_fault r.bytes.now s k c.requires.labels) c.in_ok-check_labels.ensures e
    (named_stopped (λ x. x) e (stmt_of r.bytes.now s k.front) (stmt_fault r.bytes.now s k.front) c.in_err-front.ensures)))

pub returns-in_err-later_stmts : goal.returns-in_err-later_stmts
returns-in_err-later_stmts c =
    let p = err_from_is_err_and c.from_residual-in_err-later_stmts.result c.from_residual-in_err-later_stmts.ensures.1 in
    let r = c.args.resolver.now in
    let s = seen r.names.locals.now r.names.labels.now r.count in
    let k = c.args.code.now in
    let e = c.in_err-later_stmts.field-0.0 in
    rw (p.1, p.2) (stopped_named (λ (v : Vec Stmt). v.items) e (map (stmt_of r.bytes.now s) (stmts_of (items_of k))) (in_turn (item_fault r.bytes.now s) [] (items_of k))
    (stop_third (in_turn (item_fault r.bytes.now s) [] (map items.Label k.labels)) (stmt_fault r.bytes.now s k.front) (in_turn (item_fault r.bytes.now s) (front_of k) k.rest) (in_turn (item_fault r.bytes.now s) [] (items_of k)) (whole_fault r.bytes.now s k c.requires.labels) c.in_ok-check_labels.ensures c.in_ok-front.ensures.0 e c.in_err-later_stmts.ensures.fault))

pub returns : goal.returns
returns c =
    let r = c.args.resolver.now in
    let s = seen r.names.locals.now r.names.labels.now r.count in
    let k = c.args.code.now in (
      no_fault (in_turn (item_fault r.bytes.now s) [] (map items.Label k.labels)) (stmt_fault r.bytes.now s k.front) (in_turn (item_fault r.bytes.now s) (front_of k) k.rest) (in_turn (item_fault r.bytes.now s) [] (items_of k)) (whole_fault r.bytes.now s k c.requires.labels) c.in_ok-check_labels.ensures c.in_ok-front.ensures.0 c.in_ok-later_stmts.ensures.fault,
      c.in_ok-later_stmts.ensures.stmts ∙ ap (λ (zs : List Stmt). zs ++ map (stmt_of r.bytes.now s) (stmts_of k.rest)) (c.in_ok-push.ensures.items ∙ ap (λ (zs : List Stmt). zs ++ c.in_ok-front.front ∷ []) c.new-stmts.ensures.items ∙ ap (λ (x : Stmt). x ∷ []) c.in_ok-front.ensures.1) ∙ sym (whole_stmts r.bytes.now s k),
    )
