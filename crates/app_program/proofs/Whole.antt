-- A program of well formed classes within the limits is whole, and names only its own parts.
use Rattle.std.proofs.Common.{◌≡◌, ◌<◌, ◌≤◌, ◌+◌, ℕ, Bool, true, false, IsTrue, List, [], Option, Some, All, Contains, length, get_or, refl, sym, ap, ◌∙◌, subst, arith}
use Rattle.std.proofs.lemmas.List.{length-map}
use Rattle.clean_base.specs.Lists.{At}
use Rattle.clean_base.specs.Limits.{most_params}
use Rattle.clean_base.specs.declared.ids.FieldId.{FieldId}
use Rattle.clean_base.specs.declared.ids.LocalId.{LocalId}
use Rattle.clean_base.specs.declared.ids.MethodId.{MethodId}
use Rattle.clean_base.specs.declared.ids.StmtId.{StmtId}
use Rattle.jimple_tree.specs.WellFormed.{IsWellFormed, LocalFits, StmtFits}
use Rattle.jimple_tree.specs.declared.tree.Body.{Body}
use Rattle.jimple_tree.specs.declared.tree.Class.{Class}
use Rattle.jimple_tree.specs.declared.tree.FieldSig.{FieldSig}
use Rattle.jimple_tree.specs.declared.tree.Invoke.{Invoke}
use Rattle.jimple_tree.specs.declared.tree.InvokeKind.{InvokeKind}
use Rattle.jimple_tree.specs.declared.tree.InvokeKind.TheVariants as kinds
use Rattle.jimple_tree.specs.declared.tree.Method.{Method}
use Rattle.jimple_tree.specs.declared.tree.Sig.{Sig}
use Rattle.jimple_tree.specs.declared.tree.Stmt.{Stmt}
use Rattle.source_sink.specs.declared.line.Line.{Line}
use Rattle.access_path.specs.declared.view.CallView.{CallView}
use Rattle.access_path.specs.declared.view.View.{View}
use Rattle.access_path.specs.declared.view.View.TheVariants as views
use Rattle.class_table.specs.Faults.{IsTable}
use Rattle.class_table.specs.Methods.{all_methods, stmts_in}
use Rattle.class_table.specs.Resolving.{Resolves}
use Rattle.field_table.specs.Numbers.{field_sigs, own_fields, IsFieldNumber}
use Rattle.call_graph.specs.Calls.{IsOpenTo, IsTargetOf, call_in}
use Rattle.statement_graph.specs.Statements.{IsOf, IsStmt, Leads, Together}
use Rattle.statement_views.specs.Views.{IsCallView, local_of}
use Rattle.flow_rules.specs.Code.{Code, IsOpenCall, IsTarget, IsWhole, Stands, StandsIn}
use Rattle.flow_rules.specs.Own.{IsField, IsLocalOf, IsNamed, OwnView}
use Rattle.program_code.specs.App.{body_locals, locals_of}
use Rattle.app_program.specs.Program.{AreMethods, AreStmts}
use Rattle.app_program.proofs.Inverse.{call_fits, call_is_seen, call_seen}
use Rattle.app_program.proofs.Owned.{view_owned}
use Rattle.app_program.proofs.Placed.{method_fits, stmt_fits, stmt_placed}
use Rattle.app_program.proofs.Rowed.{item_at}

not_true : (b : Bool) → (IsTrue b → ⊥) → b ≡ false
not_true true never = absurd (never refl)
not_true false never = refl

-- what a call comes to is a method with a number and as many parameters, which are few
record IsFew (cs : List Class) (sig : Sig) (n : MethodId) : Type 0 where
  number : n.0 < length (all_methods cs)
  params : length sig.params ≤ most_params

resolved_few : (cs : List Class) (name : List ℕ) (sig : Sig) (n : MethodId) → All IsWellFormed cs → Resolves cs name sig n → IsFew cs sig n
resolved_few cs name sig n formed found = record {
  number = found.number.0;
  params =
      let few = (method_fits cs n found.class found.method formed found.number).params in
      let same : length found.method.params ≡ length sig.params = ap (λ (s : Sig). length s.params) found.found.here.named in
      omega (arith, few, same);
}

target_few : (cs : List Class) (kind : InvokeKind) (sig : Sig) (n : MethodId) → All IsWellFormed cs → IsTargetOf cs kind sig n → IsFew cs sig n
target_few cs kinds.Static sig n formed to = resolved_few cs sig.class sig n formed to
target_few cs kinds.Special sig n formed to = resolved_few cs sig.class sig n formed to
target_few cs kinds.Virtual sig n formed to = resolved_few cs to.0 sig n formed to.3
target_few cs kinds.Interface sig n formed to = resolved_few cs to.0 sig n formed to.3

-- a statement of a method where it stands
record Known (cs : List Class) (s : StmtId) (m : MethodId) : Type 0 where
  c : Class
  k : Method
  b : Body
  p : ℕ
  stmt : Stmt
  is : IsStmt cs s m c k b p stmt
  at : At (stmts_in cs) s.0 stmt
  fits : StmtFits b stmt

-- what is seen as a call is one
record Seen (cs : List Class) (lines : List Line) (s : StmtId) (call : CallView) : Type 0 where
  m : MethodId
  known : Known cs s m
  invoke : Invoke
  is : call_in known.stmt ≡ Some invoke
  to : Option LocalId
  view : IsCallView cs lines s to invoke call

module _ (cs : List Class) (lines : List Line) (code : Code) (formed : All IsWellFormed cs) (ms : AreMethods cs code) (ss : AreStmts cs lines code) where
  of_known : (s : StmtId) (m : MethodId) → IsOf cs s m → Known cs s m
  of_known s m (c, k, b, p, stmt, is) = record {
    c = c;
    k = k;
    b = b;
    p = p;
    stmt = stmt;
    is = is;
    at = stmt_placed cs s m c k b p stmt is;
    fits = stmt_fits cs s m c k b p stmt formed is;
  }

  known : (s : StmtId) → s.0 < length (stmts_in cs) → (m : MethodId) × Known cs s m
  known s below =
      let owner = get_or code.owners s.0 (record { 0 = 0 }) in
      let count = ss.owned in
      (owner, of_known s owner ((ss.owners s owner).0 (item_at code.owners s.0 (record { 0 = 0 }) (omega (arith, below, count)))))

  seen_call : (s : StmtId) (call : CallView) → Stands code s (views.Call call) → Seen cs lines s call
  seen_call s call stands =
      let count = ss.viewed in
      let there = stands.0 in
      let (m, k) = known s (omega (arith, there, count)) in
      let (f, refers, is) = ss.views s.0 k.stmt (views.Call call) k.at stands in
      let (invoke, found, (to, view)) = call_seen cs lines f s k.stmt call is in
      record { m = m; known = k; invoke = invoke; is = found; to = to; view = view }

  placed : (s : StmtId) (call : CallView) → Stands code s (views.Call call) → call.stmt ≡ s
  placed s call stands = (seen_call s call stands).view.stands

  -- an open call comes to some method, and is neither source nor sink
  opened : (s : StmtId) (call : CallView) → IsOpenCall code s call → (seen : Seen cs lines s call) × (n : MethodId) × IsOpenTo cs lines seen.invoke n
  opened s call is = let seen = seen_call s call is.0 in let (n, to) = seen.view.opens.0 is.1 in (seen, n, to)

  plain : (s : StmtId) (call : CallView) → IsOpenCall code s call → (call.source ≡ false) × (call.sink ≡ false)
  plain s call is =
      let (seen, n, to) = opened s call is in (
        not_true call.source (λ yes. to.plain.no_source (seen.view.source_says.0 yes)),
        not_true call.sink (λ yes. to.plain.no_sink (seen.view.sink_says.0 yes)),
      )

  aims : (s : StmtId) (call : CallView) → IsOpenCall code s call → (m : MethodId) × IsTarget code s m
  aims s call is =
      let (seen, n, to) = opened s call is in
      let there = is.0.0 in
      let viewed = ss.viewed in
      let called = ss.called in
      let row = item_at code.targets s.0 [] (omega (arith, there, viewed, called)) in
      (n, (get_or code.targets s.0 [], row, ((ss.targets s.0 seen.known.stmt (get_or code.targets s.0 []) seen.known.at row).exact n).1 (seen.invoke, seen.is, to)))

  few_args : (s : StmtId) (call : CallView) → IsOpenCall code s call → length call.args ≤ 255
  few_args s call is =
      let (seen, n, to) = opened s call is in
      let params = (target_few cs seen.invoke.kind seen.invoke.sig n formed to.target).params in
      let fits = (call_fits seen.known.b seen.known.stmt seen.invoke seen.known.fits seen.is).1 in
      let args : length call.args ≡ length seen.invoke.args =
      ap (λ (xs : List (Option LocalId)). length xs) seen.view.takes ∙ length-map seen.invoke.args local_of in
      omega (arith, params, fits, args)

  -- a target is one of a call's
  record Comes (s : StmtId) (n : MethodId) : Type 0 where
    m : MethodId
    known : Known cs s m
    invoke : Invoke
    is : call_in known.stmt ≡ Some invoke
    to : IsOpenTo cs lines invoke n

  comes : (s : StmtId) (n : MethodId) → IsTarget code s n → Comes s n
  comes s n (row, at, has) =
      let count = ss.called in
      let there = at.0 in
      let (m, k) = known s (omega (arith, there, count)) in
      let (invoke, is, to) = ((ss.targets s.0 k.stmt row k.at at).exact n).0 has in
      record { m = m; known = k; invoke = invoke; is = is; to = to }

  opens : (s : StmtId) (m : MethodId) → IsTarget code s m → (call : CallView) × IsOpenCall code s call
  opens s m target =
      let from = comes s m target in
      let k = from.known in
      let there = k.at.0 in
      let count = ss.viewed in
      let view = get_or code.views s.0 views.Other in
      let stands : Stands code s view = item_at code.views s.0 views.Other (omega (arith, there, count)) in
      let (f, refers, is) = ss.views s.0 k.stmt view k.at stands in
      let (call, same, (to, is_call)) = call_is_seen cs lines f s k.b k.stmt from.invoke view k.fits from.is is in
      (call, (subst (Stands code s) same stands, is_call.opens.1 (m, from.to)))

  targets_within : (s : StmtId) (m : MethodId) → IsTarget code s m → m.0 < length code.firsts
  targets_within s m target =
      let from = comes s m target in
      let number = (target_few cs from.invoke.kind from.invoke.sig m formed from.to.target).number in
      let count = ms.count in
      omega (arith, number, count)

  owners_within : (m : MethodId) → Contains code.owners m → m.0 < length code.firsts
  owners_within m (i, below, is) =
      let (c, k, b, p, stmt, own) = (ss.owners (record { 0 = i }) m).0 (below, is) in
      let number = own.method.0 in
      let count = ms.count in
      omega (arith, number, count)

  pub program_whole : IsTable cs → code.root.0 < length (all_methods cs)
      → ((m : MethodId) (s : StmtId) → At code.firsts m.0 s → IsOf cs s m) → ((s q : StmtId) → Leads cs s q → Together cs s q) → IsWhole code
  program_whole table root begins together = record {
    root = let count = ms.count in omega (arith, root, count);
    few_methods = let few = table.methods in let count = ms.count in omega (arith, few, count);
    few_statements = let few = table.stmts in let count = ss.viewed in omega (arith, few, count);
    owned = ss.owned ∙ sym ss.viewed;
    owners = owners_within;
    starts = λ m s at. (ss.owners s m).1 (begins m s at);
    inside = λ s q follows. let (m, one, two) = together s q ((ss.nexts s q).0 follows) in (m, (ss.owners s m).1 one, (ss.owners q m).1 two);
    placed = placed;
    opens = opens;
    aims = aims;
    plain = plain;
    targets = targets_within;
    args = few_args;
  }

  pub program_named : code.fields ≡ own_fields + length (field_sigs cs) → IsNamed code
  program_named numbered = record { own_fields = omega (arith, numbered); views = owned } where
    numbers : (sig : FieldSig) (f : FieldId) → IsFieldNumber cs sig f → IsField code f
    numbers sig f (own, means, (some, at)) = let below = at.0 in omega (arith, numbered, some, below)

    locals : (m : MethodId) (c : Class) (k : Method) (b : Body) (p : ℕ) (s : StmtId) (stmt : Stmt)
        → IsStmt cs s m c k b p stmt → (x : LocalId) → LocalFits b x → IsLocalOf code m x
    locals m c k b p s stmt is x fits =
        (length (locals_of k), ms.locals m c k is.method, subst (λ (body : Option Body). x.0 < length (body_locals body)) (sym is.body) fits)

    owned : (s : StmtId) (m : MethodId) (view : View) → StandsIn code s m → Stands code s view → OwnView code m view
    owned s m view own stands =
        let k = of_known s m ((ss.owners s m).0 own) in
        let (f, refers, is) = ss.views s.0 k.stmt view k.at stands in
        view_owned cs lines code m k.b (locals m k.c k.k k.b k.p s k.stmt k.is) (omega (arith, numbered)) f s k.stmt view
        k.fits (λ sig same. numbers sig f (refers sig same)) is
