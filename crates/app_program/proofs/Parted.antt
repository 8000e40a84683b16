-- What was gathered of well formed classes within the limits are the parts of a program.
use Rattle.std.proofs.Common.{◌≡◌, ◌↔◌, ◌≤◌, ◌+◌, List, [], ◌++◌, All, Contains, length, get_or, sym, ap, ◌∙◌, subst, arith}
use Rattle.clean_base.specs.Lists.{At}
use Rattle.clean_base.specs.declared.ids.MethodId.{MethodId}
use Rattle.clean_base.specs.declared.ids.StmtId.{StmtId}
use Rattle.jimple_tree.specs.WellFormed.{IsWellFormed}
use Rattle.jimple_tree.specs.declared.tree.Class.{Class}
use Rattle.jimple_tree.specs.declared.tree.FieldSig.{FieldSig}
use Rattle.source_sink.specs.declared.line.Line.{Line}
use Rattle.access_path.specs.declared.view.View.{View}
use Rattle.class_table.specs.Faults.{IsTable}
use Rattle.class_table.specs.Methods.{all_methods, IsNumber}
use Rattle.field_table.specs.Fields.{declared_sigs}
use Rattle.field_table.specs.Numbers.{all_sigs, field_sigs, own_fields}
use Rattle.flow_rules.specs.Code.{Calls, Code, Follows, IsReturn, MayThrow, StandsIn}
use Rattle.reach_rows.specs.Graphs.{Steps}
use Rattle.program_code.specs.Parts.{ArePartsOf, ArePreds, AreOfKind, IsCallGraph, code_of}
use Rattle.program_code.specs.Views.{Raises}
use Rattle.program_code.specs.declared.parts.Parts.{Parts}
use Rattle.app_program.specs.Ends.{AreEnds, Gives, IsSeen}
use Rattle.app_program.specs.Gathered.{AreGathered}
use Rattle.app_program.specs.Program.{AreMethods, AreStmts}
use Rattle.app_program.proofs.Endings.{returns_seen, throws_seen}
use Rattle.app_program.proofs.Gathers.{follows, gathered_methods, gathered_stmts, of_within}
use Rattle.app_program.proofs.Rowed.{row_has, row_within}
use Rattle.app_program.proofs.Whole.{program_named, program_whole}

module _ (cs : List Class) (lines : List Line) (p : Parts) (are : AreGathered cs lines p) where
  abbrev code : Code
  code = code_of p

  -- the fields are those of the classes
  sigs_are : all_sigs p.fields ≡ field_sigs cs
  sigs_are =
      ap (λ (xs : List FieldSig). xs ++ p.fields.named) are.fields.all_declared
      ∙ ap (λ (xs : List FieldSig). declared_sigs cs ++ xs) are.fields.all_named

  numbered : code.fields ≡ own_fields + length (field_sigs cs)
  numbered = ap (λ (xs : List FieldSig). 2 + length xs) sigs_are

  preds_are : ArePreds code p.preds
  preds_are = record { count = are.statements.back.counted ∙ sym are.all_seen; each = each } where
    each : (s q : StmtId) → Contains (get_or p.preds s.0 []) q ↔ Follows code q s
    each s q = (
      (λ has.
          let below = row_within p.preds s.0 q has in
          let count = are.statements.back.counted in
          (follows cs lines p are q s).1 ((are.statements.back.exact s q (omega (arith, below, count))).0 has)),
      (λ h.
          let leads = (follows cs lines p are q s).0 h in
          let (m, one, two) = are.statements.together q s leads in
          (are.statements.back.exact s q (of_within cs lines p are s m two)).1 leads),
    )

  ends_are : (Is : View → Type 0) (Ends : StmtId → Type 0) (rows : List (List StmtId))
      → ((s : StmtId) → IsSeen p.views Is s ↔ Ends s) → AreEnds cs p.views Is (length (all_methods cs)) rows → AreOfKind code Ends rows
  ends_are Is Ends rows same ends = record { count = ends.counted ∙ sym are.statements.methods; each = each } where
    each : (m : MethodId) (s : StmtId) → Contains (get_or rows m.0 []) s ↔ (StandsIn code s m × Ends s)
    each m s = (
      (λ has.
          let below = row_within rows m.0 s has in
          let count = ends.counted in
          let (own, seen) = (ends.each m s (omega (arith, below, count))).0 has in
          ((are.statements.owners_are s m).1 own, (same s).0 seen)),
      (λ is.
          let own = (are.statements.owners_are s m).0 is.0 in
          let number = own.5.method.0 in
          (ends.each m s number).1 (own, (same s).1 is.1)),
    )

  calls_are : IsCallGraph code are.calls
  calls_are = record { count = are.called.counted ∙ sym are.statements.methods; each = each } where
    each : (m n : MethodId) → Steps are.calls m.0 n.0 ↔ Calls code m n
    each m n = (
      (λ has.
          let below = row_within are.calls m.0 n.0 has in
          let count = are.called.counted in
          let (s, own, target) = (are.called.each m n (omega (arith, below, count))).0 has in
          (s, (are.statements.owners_are s m).1 own, (row_has p.targets s.0 n).0 target)),
      (λ calls.
          let (s, stands, target) = calls in
          let own = (are.statements.owners_are s m).0 stands in
          let number = own.5.method.0 in
          (are.called.each m n number).1 (s, own, (row_has p.targets s.0 n).1 target)),
    )

  behind : (s first : StmtId) (m : MethodId) → StandsIn code s m → At p.firsts m.0 first → first.0 ≤ s.0
  behind s first m stands at =
      let (c, k, b, place, stmt, is) = (are.statements.owners_are s m).0 stands in
      let begins = (are.statements.begins m first at).0 in
      let number = is.number in
      omega (arith, begins, number)

  pub gathered_parts : All IsWellFormed cs → IsTable cs → ArePartsOf p
  gathered_parts formed table = record {
    whole = program_whole cs lines code formed methods stmts table are.root (λ m s at. (are.statements.begins m s at).1) are.statements.together;
    named = program_named cs lines code formed methods stmts numbered;
    nexts = are.statements.forth.counted ∙ sym are.all_seen;
    targets = are.seen.counted;
    locals = are.counted ∙ sym are.statements.methods;
    few_statements = let few = table.stmts in let count = are.all_seen in omega (arith, few, count);
    methods = ap (λ (classes : List Class). length (all_methods classes)) are.table ∙ sym are.statements.methods;
    bodies = λ m c k at. are.locals m c k (subst (λ (classes : List Class). IsNumber classes m c k) are.table at);
    behind = behind;
    preds = preds_are;
    returns = ends_are Gives (IsReturn code) p.returns (returns_seen code) are.returns;
    throws = ends_are Raises (MayThrow code) p.throws (throws_seen code) are.throws;
    graph = are.calls;
    calls = calls_are;
    closure = are.closure;
  } where
    methods : AreMethods cs code
    methods = gathered_methods cs lines p are

    stmts : AreStmts cs lines code
    stmts = gathered_stmts cs lines p are
