-- A body in which no fault is found is well formed.
use Rattle.std.proofs.Common.{◌≡◌, ℕ, suc, ◌+◌, ◌<◌, ◌≤◌, true, List, [], ◌∷◌, ◌++◌, length, map, flat_map, All, Contains, Option, Some, None, is_some, refl, sym, ◌∙◌, subst, arith, true≢false}
use Rattle.std.specs.List.{AllByRecursion}
use Rattle.std.specs.Option.{option_map}
use Rattle.std.proofs.lemmas.Bool.{ltb-true}
use Rattle.std.proofs.lemmas.List.{length-append, length-map}
use Rattle.std.proofs.lemmas.List.Elements.{All-nil, All-cons, All-head, All-tail, All-append, All-map}
use Rattle.jimple_tree.specs.WellFormed.{LocalFits, ImmFits, BaseFits, InvokeFits, TargetFits, GivenFits, RhsFits, StmtFits, CatchFits, BodyFits}
use Rattle.jimple_tree.specs.declared.tree.Body.{Body}
use Rattle.jimple_tree.specs.declared.tree.Case.{Case}
use Rattle.jimple_lex.specs.declared.token.Token.{Token}
use Rattle.jimple_grammar.specs.Lexemes.{lexemes}
use Rattle.jimple_grammar.specs.Fits as raw
use Rattle.jimple_grammar.specs.declared.lexeme.Lexeme.{Lexeme}
use Rattle.jimple_grammar.specs.declared.raw.RawBody.{RawBody}
use Rattle.jimple_grammar.specs.declared.raw.RawCall.{RawCall}
use Rattle.jimple_grammar.specs.declared.raw.RawCase.{RawCase}
use Rattle.jimple_grammar.specs.declared.raw.RawCatch.{RawCatch}
use Rattle.jimple_grammar.specs.declared.raw.RawDecl.{RawDecl}
use Rattle.jimple_grammar.specs.declared.raw.RawGiven.{RawGiven}
use Rattle.jimple_grammar.specs.declared.raw.RawGiven.TheVariants as givens
use Rattle.jimple_grammar.specs.declared.raw.RawImm.{RawImm}
use Rattle.jimple_grammar.specs.declared.raw.RawImm.TheVariants as imms
use Rattle.jimple_grammar.specs.declared.raw.RawItem.{RawItem}
use Rattle.jimple_grammar.specs.declared.raw.RawItem.TheVariants as items
use Rattle.jimple_grammar.specs.declared.raw.RawRhs.{RawRhs}
use Rattle.jimple_grammar.specs.declared.raw.RawRhs.TheVariants as sides
use Rattle.jimple_grammar.specs.declared.raw.RawStmt.{RawStmt}
use Rattle.jimple_grammar.specs.declared.raw.RawStmt.TheVariants as stmts
use Rattle.jimple_names.specs.declared.scope.Label.{Label}
use Rattle.jimple_names.specs.Texts.{name_of, type_of}
use Rattle.jimple_names.specs.Scope.{Scope, items_of, stmts_of, labels_from, declared, scope_of, local_at, label_at, or_first}
use Rattle.jimple_names.specs.Tree.{local_of, target_of, imm_of, call_of, invoke_of, given_of, rhs_of, case_of, stmt_of, catch_of, locals_of, body_of}
use Rattle.jimple_names.specs.Faults.{◌or◌, first, in_turn, local_fault, is_statement, label_fault, end_fault, imm_fault, base_fault, call_fault, rhs_fault, case_fault, stmt_fault, item_fault, catch_fault, declared_fault, body_fault}
use Rattle.jimple_names.proofs.WellFormedParts.{or_none, unless_none, each_none, found_below, label_within}
use Rattle.jimple_names.proofs.WellFormedKinds.{static_base, local_base, low_parameter}

-- the place of a label that is found before a statement is that of a statement
statement_below : (bytes : List ℕ) (s : Scope) (r : Option ℕ) → is_statement bytes s r ≡ true → or_first r < s.count
statement_below bytes s None e = absurd (true≢false (sym e))
statement_below bytes s (Some at) e = ltb-true at s.count e

-- A body with so many locals and statements as the scope has, whose labels stand within it
module _ (bytes : List ℕ) (ts : List Token) (n : ℕ) (s : Scope) (b : Body) (locals : length s.locals ≡ length b.locals) (count : s.count ≡ length b.stmts) (within : AllByRecursion (λ (l : Label). l.place ≤ s.count) s.labels) where
  abbrev P : Lexeme → Type 0
  P = Contains (lexemes bytes ts)

  local_fits : (t : Lexeme) → local_fault bytes s t ≡ None → LocalFits b (local_of bytes s t)
  local_fits t e =
      let below = found_below s.locals (name_of bytes t) (unless_none (is_some (local_at s.locals (name_of bytes t))) _ e) in
      subst (λ m. or_first (local_at s.locals (name_of bytes t)) < m) locals below

  target_fits : (t : Lexeme) → label_fault bytes s t ≡ None → TargetFits b (target_of bytes s t)
  target_fits t e =
      let below = statement_below bytes s (label_at s.labels (name_of bytes t)) (unless_none (is_statement bytes s (label_at s.labels (name_of bytes t))) _ e) in
      subst (λ m. or_first (label_at s.labels (name_of bytes t)) < m) count below

  end_fits : (t : Lexeme) → target_of bytes s t ≤ length b.stmts
  end_fits t = subst (λ m. or_first (label_at s.labels (name_of bytes t)) ≤ m) count (label_within s.count s.labels (name_of bytes t) within)

  imm_fits : (x : RawImm) → imm_fault bytes s x ≡ None → ImmFits b (imm_of bytes s x)
  imm_fits (imms.Local t) e = local_fits t e
  imm_fits (imms.Literal t) e = tt
  imm_fits (imms.Class t) e = tt

  imms_fit : (xs : List RawImm) → All (raw.ImmFits P n) xs → first (imm_fault bytes s) xs ≡ None → All (ImmFits b) (map (imm_of bytes s) xs)
  imms_fit xs h e = each_none (imm_of bytes s) (imm_fault bytes s) (raw.ImmFits P n) (ImmFits b) (λ x f e. imm_fits x e) xs h e

  base_fits : (word : Lexeme) (base : Option Lexeme) → raw.BaseFits P n word base → base_fault bytes s base ≡ None → BaseFits b (call_of word.kind) (option_map (local_of bytes s) base)
  base_fits word None h e = static_base b word.kind h.1
  base_fits word (Some t) h e = local_base b word.kind (local_of bytes s t) h.0.1 (local_fits t e)

  call_fits : (k : RawCall) → raw.CallFits P n k → call_fault bytes s k ≡ None → InvokeFits b (invoke_of bytes s k)
  call_fits k h e =
      let parts = or_none (base_fault bytes s k.callee.base) (first (imm_fault bytes s) k.args) e in (
        base_fits k.callee.word k.callee.base h.base parts.0,
        length-map k.args (imm_of bytes s) ∙ h.count ∙ sym (length-map k.callee.sig.params (type_of bytes)),
        imms_fit k.args h.args parts.1,
      )

  given_fits : (x : RawGiven) → raw.GivenFits P n x → GivenFits (given_of bytes s x)
  given_fits (givens.This ty) h = tt
  given_fits (givens.Param word ty) h = low_parameter bytes ts word h.0.0 h.0.1
  given_fits givens.Caught h = tt

  rhs_fits : (x : RawRhs) → raw.RhsFits P n x → rhs_fault bytes s x ≡ None → RhsFits b (rhs_of bytes s x)
  rhs_fits (sides.Use x) h e = imm_fits x e
  rhs_fits (sides.Cast ty x) h e = imm_fits x e
  rhs_fits (sides.Load x f) h e = local_fits x e
  rhs_fits (sides.LoadStatic f) h e = tt
  rhs_fits (sides.LoadElement x i) h e = let parts = or_none (local_fault bytes s x) (imm_fault bytes s i) e in (local_fits x parts.0, imm_fits i parts.1)
  rhs_fits (sides.New t) h e = tt
  rhs_fits (sides.NewArray ty x) h e = imm_fits x e
  rhs_fits (sides.NewMulti m) h e = imms_fit m.lengths h.lengths e
  rhs_fits (sides.InstanceOf x ty) h e = imm_fits x e
  rhs_fits (sides.Length x) h e = imm_fits x e
  rhs_fits (sides.Neg x) h e = imm_fits x e
  rhs_fits (sides.Binary left op right) h e = let parts = or_none (imm_fault bytes s left) (imm_fault bytes s right) e in (imm_fits left parts.0, imm_fits right parts.1)
  rhs_fits (sides.Call k) h e = call_fits k h e

  cases_fit : (cs : List RawCase) → All (raw.CaseFits P n) cs → first (case_fault bytes s) cs ≡ None → All (λ (c : Case). TargetFits b c.target) (map (case_of bytes s) cs)
  cases_fit cs h e = each_none (case_of bytes s) (case_fault bytes s) (raw.CaseFits P n) (λ (c : Case). TargetFits b c.target) (λ c f e. target_fits c.target e) cs h e

  stmt_fits : (x : RawStmt) → raw.StmtFits P n x → stmt_fault bytes s x ≡ None → StmtFits b (stmt_of bytes s x)
  stmt_fits (stmts.Identity x given) h e = (local_fits x e, given_fits given h.1)
  stmt_fits (stmts.Assign x r) h e = let parts = or_none (local_fault bytes s x) (rhs_fault bytes s r) e in (local_fits x parts.0, rhs_fits r h.1 parts.1, tt)
  stmt_fits (stmts.StoreField x f v) h e = let parts = or_none (local_fault bytes s x) (imm_fault bytes s v) e in (local_fits x parts.0, imm_fits v parts.1, tt)
  stmt_fits (stmts.StoreElement x i v) h e =
      let parts = or_none (local_fault bytes s x) (imm_fault bytes s i or imm_fault bytes s v) e in
      let rest = or_none (imm_fault bytes s i) (imm_fault bytes s v) parts.1 in
      ((local_fits x parts.0, imm_fits i rest.0), imm_fits v rest.1, tt)
  stmt_fits (stmts.StoreStatic f v) h e = (tt, imm_fits v e, tt)
  stmt_fits (stmts.Call k) h e = call_fits k h e
  stmt_fits (stmts.If left cond right target) h e =
      let parts = or_none (imm_fault bytes s left) (imm_fault bytes s right or label_fault bytes s target) e in
      let rest = or_none (imm_fault bytes s right) (label_fault bytes s target) parts.1 in
      (imm_fits left parts.0, imm_fits right rest.0, target_fits target rest.1)
  stmt_fits (stmts.Goto target) h e = target_fits target e
  stmt_fits (stmts.Switch w) h e =
      let parts = or_none (imm_fault bytes s w.key) (first (case_fault bytes s) w.cases or label_fault bytes s w.default) e in
      let rest = or_none (first (case_fault bytes s) w.cases) (label_fault bytes s w.default) parts.1 in
      (imm_fits w.key parts.0, cases_fit w.cases h.cases rest.0, target_fits w.default rest.1)
  stmt_fits (stmts.Return None) h e = tt
  stmt_fits (stmts.Return (Some x)) h e = imm_fits x e
  stmt_fits (stmts.Throw x) h e = imm_fits x e
  stmt_fits stmts.Nop h e = tt
  stmt_fits (stmts.Enter x) h e = imm_fits x e
  stmt_fits (stmts.Exit x) h e = imm_fits x e

  items_fit : (before xs : List RawItem) → All (raw.ItemFits P n) xs → in_turn (item_fault bytes s) before xs ≡ None → All (StmtFits b) (map (stmt_of bytes s) (stmts_of xs))
  items_fit before [] h e = All-nil (StmtFits b)
  items_fit before (items.Label t ∷ xs) h e =
      let parts = or_none (item_fault bytes s before (items.Label t)) (in_turn (item_fault bytes s) (before ++ items.Label t ∷ []) xs) e in
      items_fit (before ++ items.Label t ∷ []) xs (All-tail (raw.ItemFits P n) (items.Label t) xs h) parts.1
  items_fit before (items.Stmt x ∷ xs) h e =
      let parts = or_none (item_fault bytes s before (items.Stmt x)) (in_turn (item_fault bytes s) (before ++ items.Stmt x ∷ []) xs) e in
      All-cons (StmtFits b) (stmt_of bytes s x) (map (stmt_of bytes s) (stmts_of xs)) (stmt_fits x (All-head (raw.ItemFits P n) (items.Stmt x) xs h) parts.0)
      (items_fit (before ++ items.Stmt x ∷ []) xs (All-tail (raw.ItemFits P n) (items.Stmt x) xs h) parts.1)

  catch_fits : (c : RawCatch) → catch_fault bytes s c ≡ None → CatchFits b (catch_of bytes s c)
  catch_fits c e =
      let parts = or_none (label_fault bytes s c.from) (end_fault bytes s c.to or label_fault bytes s c.with) e in
      let rest = or_none (end_fault bytes s c.to) (label_fault bytes s c.with) parts.1 in
      (target_fits c.from parts.0, end_fits c.to, target_fits c.with rest.1)

  catches_fit : (cs : List RawCatch) → All (raw.CatchFits P n) cs → first (catch_fault bytes s) cs ≡ None → All (CatchFits b) (map (catch_of bytes s) cs)
  catches_fit cs h e = each_none (catch_of bytes s) (catch_fault bytes s) (raw.CatchFits P n) (CatchFits b) (λ c f e. catch_fits c e) cs h e

-- Bodies

-- as many locals as names that are declared
as_many_locals : (bytes : List ℕ) (ds : List RawDecl) → length (flat_map (locals_of bytes) ds) ≡ length (flat_map (λ (d : RawDecl). d.names) ds)
as_many_locals bytes [] = refl
as_many_locals bytes (d ∷ ds) =
    let rest = as_many_locals bytes ds in
    let here : length (locals_of bytes d) ≡ length d.names = length-map d.names _ in
    let left = length-append (locals_of bytes d) (flat_map (locals_of bytes) ds) in
    let right = length-append d.names (flat_map (λ (d : RawDecl). d.names) ds) in
    omega (arith, rest, here, left, right)

-- no label stands behind the end
labels_within : (bytes : List ℕ) (count at : ℕ) (xs : List RawItem) → at + length (stmts_of xs) ≤ count → AllByRecursion (λ (l : Label). l.place ≤ count) (labels_from bytes at xs)
labels_within bytes count at [] h = tt
labels_within bytes count at (items.Label t ∷ xs) h = (omega (arith, h), labels_within bytes count at xs h)
labels_within bytes count at (items.Stmt x ∷ xs) h = labels_within bytes count (suc at) xs (omega (arith, h))

some_stmt : (labels : List Lexeme) (x : RawStmt) (rest : List RawItem) → 0 < length (stmts_of (map items.Label labels ++ items.Stmt x ∷ rest))
some_stmt [] x rest = omega arith
some_stmt (t ∷ labels) x rest = some_stmt labels x rest

pub body_fits : (bytes : List ℕ) (ts : List Token) (n : ℕ) (r : RawBody) → raw.BodyFits (Contains (lexemes bytes ts)) n r → body_fault bytes r ≡ None → BodyFits (body_of bytes r)
body_fits bytes ts n r h e =
    let s = scope_of bytes r in
    let b = body_of bytes r in
    let many : length (flat_map (locals_of bytes) r.decls) ≡ length (declared r) = as_many_locals bytes r.decls in
    let locals : length s.locals ≡ length b.locals = length-map (declared r) (name_of bytes) ∙ sym many in
    let count : s.count ≡ length b.stmts = sym (length-map (stmts_of (items_of r.code)) (stmt_of bytes s)) in
    let within = labels_within bytes s.count 0 (items_of r.code) (omega arith) in
    let parts = or_none (in_turn (declared_fault bytes) [] (declared r)) (in_turn (item_fault bytes s) [] (items_of r.code) or first (catch_fault bytes s) r.catches) e in
    let rest = or_none (in_turn (item_fault bytes s) [] (items_of r.code)) (first (catch_fault bytes s) r.catches) parts.1 in
    let F = raw.ItemFits (Contains (lexemes bytes ts)) n in
    let fit : All F (items_of r.code) = All-append F (map items.Label r.code.labels) (items.Stmt r.code.front ∷ r.code.rest)
    (All-map F items.Label r.code.labels h.code.labels) (All-cons F (items.Stmt r.code.front) r.code.rest h.code.front h.code.rest) in
    record {
      has_statement = let some = some_stmt r.code.labels r.code.front r.code.rest in subst (λ m. 0 < m) count some;
      locals = let few = h.locals in omega (arith, many, few);
      stmts = items_fit bytes ts n s b locals count within [] (items_of r.code) fit rest.0;
      catches = catches_fit bytes ts n s b locals count within r.catches h.catches rest.1;
    }
