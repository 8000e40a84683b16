use Rattle.std.proofs.Common.{◌≡◌, [], map, flat_map, ap, sym, arith, ◌∙◌}
use Rattle.std.specs.Global.{Vec}
use Rattle.std.proofs.lemmas.Result.{err_from_is_err_and}
use Rattle.jimple_tree.specs.declared.tree.Catch.{Catch}
use Rattle.jimple_tree.specs.declared.tree.Local.{Local}
use Rattle.jimple_tree.specs.declared.tree.Stmt.{Stmt}
use Rattle.jimple_grammar.specs.declared.raw.RawDecl.{RawDecl}
use Rattle.jimple_names.specs.declared.bodies.Parts.{Parts}
use Rattle.jimple_names.specs.Texts.{name_of}
use Rattle.jimple_names.specs.Scope.{Scope, declared, items_of, stmts_of, scope_of}
use Rattle.jimple_names.specs.Tree.{stmt_of, catch_of}
use Rattle.jimple_names.specs.Faults.{first, in_turn, item_fault, catch_fault, body_fault}
use Rattle.jimple_names.specs.Resolving.{seen}
use Rattle.jimple_names.specs.Walking.{parts_of}
use Rattle.jimple_names.proofs.Stops.{named_stopped, stopped_named}
use Rattle.jimple_names.proofs.OfBodies.{same_scope, labels_few, stmts_stop, catches_stop, body_none, body_parts}
use Rattle.jimple_names.proofs.bodies.inside.Goals as goal

pub new-requires-clause-labels : goal.new-requires-clause-labels
new-requires-clause-labels c = let few = labels_few c.args.bytes.now c.args.raw.now c.requires.given c.args.locals.now c.args.labels.now c.args.count c.requires.seen in omega (arith, few)

pub check_locals-requires-clause-names : goal.check_locals-requires-clause-names
check_locals-requires-clause-names c =
    ap (map (λ (l : Local). l.name)) c.in_ok-names.ensures.locals ∙ ap (λ (s : Scope). s.locals) c.requires.seen
    ∙ sym (ap (map (name_of c.args.bytes.now)) (c.as_slice-2.ensures.value ∙ c.in_ok-tokens.ensures ∙ ap (flat_map (λ (d : RawDecl). d.names)) c.as_slice.ensures))

pub returns-in_err-stmts : goal.returns-in_err-stmts
returns-in_err-stmts c =
    let p = err_from_is_err_and c.from_residual-in_err-stmts.result c.from_residual-in_err-stmts.ensures.1 in
    let bytes = c.args.bytes.now in
    let raw = c.args.raw.now in
    let names = c.in_ok-names.names in
    let e = c.in_err-stmts.field-0.0 in
    let s : Scope = seen names.locals.now names.labels.now c.args.count in
    let same : s ≡ scope_of bytes raw = same_scope names.locals.now c.args.locals.now names.labels.now c.args.labels.now c.args.count (scope_of bytes raw) c.in_ok-names.ensures.locals c.in_ok-names.ensures.labels c.requires.seen in
    let are : c.as_slice-2.result.now ≡ declared raw = c.as_slice-2.ensures.value ∙ c.in_ok-tokens.ensures ∙ ap (flat_map (λ (d : RawDecl). d.names)) c.as_slice.ensures in
    rw (p.1, p.2) (stopped_named (λ (x : Parts). x) e (parts_of bytes raw) (body_fault bytes raw) (stmts_stop bytes raw s same c.as_slice-2.result.now are c.in_ok-check_locals.ensures e
    (named_stopped (λ (v : Vec Stmt). v.items) e (map (stmt_of bytes s) (stmts_of (items_of raw.code))) (in_turn (item_fault bytes s) [] (items_of raw.code)) c.in_err-stmts.ensures)))

pub returns-in_err-catches : goal.returns-in_err-catches
returns-in_err-catches c =
    let p = err_from_is_err_and c.from_residual-in_err-catches.result c.from_residual-in_err-catches.ensures.1 in
    let bytes = c.args.bytes.now in
    let raw = c.args.raw.now in
    let names = c.in_ok-names.names in
    let e = c.in_err-catches.field-0.0 in
    let s : Scope = seen names.locals.now names.labels.now c.args.count in
    let same : s ≡ scope_of bytes raw = same_scope names.locals.now c.args.locals.now names.labels.now c.args.labels.now c.args.count (scope_of bytes raw) c.in_ok-names.ensures.locals c.in_ok-names.ensures.labels c.requires.seen in
    let are : c.as_slice-2.result.now ≡ declared raw = c.as_slice-2.ensures.value ∙ c.in_ok-tokens.ensures ∙ ap (flat_map (λ (d : RawDecl). d.names)) c.as_slice.ensures in
    rw (p.1, p.2) (stopped_named (λ (x : Parts). x) e (parts_of bytes raw) (body_fault bytes raw) (catches_stop bytes raw s same c.as_slice-2.result.now are c.in_ok-check_locals.ensures c.in_ok-stmts.ensures.0 c.as_slice-3.result.now c.as_slice-3.ensures e
    (named_stopped (λ (v : Vec Catch). v.items) e (map (catch_of bytes s) c.as_slice-3.result.now) (first (catch_fault bytes s) c.as_slice-3.result.now) c.in_err-catches.ensures)))

pub returns : goal.returns
returns c =
    let bytes = c.args.bytes.now in
    let raw = c.args.raw.now in
    let names = c.in_ok-names.names in
    let s : Scope = seen names.locals.now names.labels.now c.args.count in
    let same : s ≡ scope_of bytes raw = same_scope names.locals.now c.args.locals.now names.labels.now c.args.labels.now c.args.count (scope_of bytes raw) c.in_ok-names.ensures.locals c.in_ok-names.ensures.labels c.requires.seen in
    let are : c.as_slice-2.result.now ≡ declared raw = c.as_slice-2.ensures.value ∙ c.in_ok-tokens.ensures ∙ ap (flat_map (λ (d : RawDecl). d.names)) c.as_slice.ensures in (
      body_none bytes raw s same c.as_slice-2.result.now are c.in_ok-check_locals.ensures c.in_ok-stmts.ensures.0 c.as_slice-3.result.now c.as_slice-3.ensures c.in_ok-catches.ensures.0,
      body_parts bytes raw s same c.as_slice-2.result.now are c.in_ok-check_locals.ensures c.in_ok-stmts.ensures.0 c.as_slice-3.result.now c.as_slice-3.ensures c.from_vec.result c.from_vec-2.result (c.from_vec.ensures ∙ c.in_ok-stmts.ensures.1) (c.from_vec-2.ensures ∙ c.in_ok-catches.ensures.1),
    )
