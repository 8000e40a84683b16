-- The classes of raw classes whose tokens are those of a text are written so that they can be read.
use Rattle.std.proofs.Common.{◌≡◌, ℕ, ◌<◌, ◌^◌, List, [], ◌∷◌, ◌++◌, map, flat_map, filter_map, All, Option, Some, None, refl, sym, subst}
use Rattle.std.specs.List.{AllByRecursion, list_any}
use Rattle.std.specs.Option.{option_map}
use Rattle.std.proofs.lemmas.List.{length-map}
use Rattle.std.proofs.lemmas.List.Elements.{recursion_from_All, All-head, All-tail, All-append, All-cons, All-map}
use Rattle.jimple_tree.specs.declared.tree.Method.{Method}
use Rattle.jimple_grammar.specs.Fits as raw
use Rattle.jimple_words.specs.Sets.{names, types, words}
use Rattle.jimple_grammar.specs.declared.lexeme.Lexeme.{Lexeme}
use Rattle.jimple_grammar.specs.declared.raw.RawBody.{RawBody}
use Rattle.jimple_grammar.specs.declared.raw.RawCall.{RawCall}
use Rattle.jimple_grammar.specs.declared.raw.RawCase.{RawCase}
use Rattle.jimple_grammar.specs.declared.raw.RawCatch.{RawCatch}
use Rattle.jimple_grammar.specs.declared.raw.RawClass.{RawClass}
use Rattle.jimple_grammar.specs.declared.raw.RawDecl.{RawDecl}
use Rattle.jimple_grammar.specs.declared.raw.RawFieldSig.{RawFieldSig}
use Rattle.jimple_grammar.specs.declared.raw.RawGiven.{RawGiven}
use Rattle.jimple_grammar.specs.declared.raw.RawGiven.TheVariants as givens
use Rattle.jimple_grammar.specs.declared.raw.RawHead.{RawHead}
use Rattle.jimple_grammar.specs.declared.raw.RawImm.{RawImm}
use Rattle.jimple_grammar.specs.declared.raw.RawImm.TheVariants as imms
use Rattle.jimple_grammar.specs.declared.raw.RawItem.{RawItem}
use Rattle.jimple_grammar.specs.declared.raw.RawItem.TheVariants as items
use Rattle.jimple_grammar.specs.declared.raw.RawMember.{RawMember}
use Rattle.jimple_grammar.specs.declared.raw.RawMember.TheVariants as members
use Rattle.jimple_grammar.specs.declared.raw.RawMethod.{RawMethod}
use Rattle.jimple_grammar.specs.declared.raw.RawRhs.{RawRhs}
use Rattle.jimple_grammar.specs.declared.raw.RawRhs.TheVariants as sides
use Rattle.jimple_grammar.specs.declared.raw.RawSig.{RawSig}
use Rattle.jimple_grammar.specs.declared.raw.RawStmt.{RawStmt}
use Rattle.jimple_grammar.specs.declared.raw.RawStmt.TheVariants as stmts
use Rattle.jimple_grammar.specs.declared.raw.RawType.{RawType}
use Rattle.jimple_names.specs.Texts.{text, name_of, type_of, sig_of, field_sig_of}
use Rattle.jimple_names.specs.Faults.{double, same_member, body_fault, optional_body_fault, member_fault, class_fault}
use Rattle.jimple_names.proofs.WellFormedParts.{none_some, or_none, each_in_turn}
use Rattle.jimple_names.specs.Scope.{Scope, items_of, stmts_of, scope_of}
use Rattle.jimple_names.specs.Tree.{imm_of, invoke_of, given_of, rhs_of, case_of, stmt_of, catch_of, declares, locals_of, body_of, field_of, method_of, field_in, method_in, class_of}
use Rattle.jimple_rewrite.proofs.IsName.{IsName}
use Rattle.jimple_rewrite.proofs.Written.{class, TypeIsWritten, SigIsWritten, FieldSigIsWritten, ImmIsWritten, InvokeIsWritten, GivenIsWritten, RhsIsWritten, CaseIsWritten, StmtIsWritten, LocalIsWritten, CatchIsWritten, BodyIsWritten, OptionalBodyIsWritten, IsModifier, FieldIsWritten, MethodIsWritten, ClassIsWritten}
use Rattle.jimple_rewrite.proofs.DistinctLocals.{body_distinct}
use Rattle.jimple_rewrite.proofs.Few.{body_few}
use Rattle.jimple_rewrite.proofs.TokensOf.{IsTokenOf, modifier_kinds, name_written, literal_written, string_written, number_written, modifier_written}

-- Lists

each_mapped : {A B : Type 0} (f : A → B) (F : A → Type 0) (W : B → Type 0) → ((x : A) → F x → W (f x)) → (xs : List A) → All F xs → AllByRecursion W (map f xs)
each_mapped f F W w [] h = tt
each_mapped f F W w (x ∷ xs) h = (w x (All-head F x xs h), each_mapped f F W w xs (All-tail F x xs h))

both_all : {B : Type 0} (W : B → Type 0) (xs ys : List B) → AllByRecursion W xs → AllByRecursion W ys → AllByRecursion W (xs ++ ys)
both_all W [] ys h k = k
both_all W (x ∷ xs) ys h k = (h.0, both_all W xs ys h.1 k)

module _ (bytes : List ℕ) (n : ℕ) (small : n < 2 ^ 32) where
  abbrev P : Lexeme → Type 0
  P = IsTokenOf bytes

  -- Names and types

  name_of_names : (t : Lexeme) → raw.Is P n names t → IsName (name_of bytes t)
  name_of_names t h = name_written bytes n names refl t h

  name_of_words : (t : Lexeme) → raw.Is P n words t → IsName (name_of bytes t)
  name_of_words t h = name_written bytes n words refl t h

  names_written : (ts : List Lexeme) → All (raw.Is P n names) ts → AllByRecursion IsName (map (name_of bytes) ts)
  names_written ts h = each_mapped (name_of bytes) (raw.Is P n names) IsName name_of_names ts h

  modifiers_written : (ts : List Lexeme) → All (raw.Is P n modifier_kinds) ts → AllByRecursion IsModifier (map (name_of bytes) ts)
  modifiers_written ts h = each_mapped (name_of bytes) (raw.Is P n modifier_kinds) IsModifier (modifier_written bytes n) ts h

  type_written : (ty : RawType) → raw.TypeFits P n ty → TypeIsWritten (type_of bytes ty)
  type_written ty h = name_written bytes n types refl ty.base h

  types_written : (ts : List RawType) → All (raw.TypeFits P n) ts → AllByRecursion TypeIsWritten (map (type_of bytes) ts)
  types_written ts h = each_mapped (type_of bytes) (raw.TypeFits P n) TypeIsWritten type_written ts h

  sig_written : (s : RawSig) → raw.SigFits P n s → SigIsWritten (sig_of bytes s)
  sig_written s h = record { class = name_of_names s.class h.class; returned = type_written s.result h.result; name = name_of_words s.name h.name; params = types_written s.params h.params }

  field_sig_written : (s : RawFieldSig) → raw.FieldSigFits P n s → FieldSigIsWritten (field_sig_of bytes s)
  field_sig_written s h = record { class = name_of_names s.class h.class; type = type_written s.ty h.ty; name = name_of_words s.name h.name }

  -- Statements

  module _ (s : Scope) where
    imm_written : (x : RawImm) → raw.ImmFits P n x → ImmIsWritten (imm_of bytes s x)
    imm_written (imms.Local t) h = tt
    imm_written (imms.Literal t) h = literal_written bytes n t h
    imm_written (imms.Class t) h = class (text bytes t) refl (string_written bytes n t h)

    imms_written : (xs : List RawImm) → All (raw.ImmFits P n) xs → AllByRecursion ImmIsWritten (map (imm_of bytes s) xs)
    imms_written xs h = each_mapped (imm_of bytes s) (raw.ImmFits P n) ImmIsWritten imm_written xs h

    call_written : (k : RawCall) → raw.CallFits P n k → InvokeIsWritten (invoke_of bytes s k)
    call_written k h = record { sig = sig_written k.callee.sig h.sig; args = imms_written k.args h.args }

    given_written : (x : RawGiven) → raw.GivenFits P n x → GivenIsWritten (given_of bytes s x)
    given_written (givens.This ty) h = type_written ty h
    given_written (givens.Param word ty) h = type_written ty h.1
    given_written givens.Caught h = tt

    rhs_written : (x : RawRhs) → raw.RhsFits P n x → RhsIsWritten (rhs_of bytes s x)
    rhs_written (sides.Use x) h = imm_written x h
    rhs_written (sides.Cast ty x) h = (type_written ty h.0, imm_written x h.1)
    rhs_written (sides.Load x f) h = field_sig_written f h.1
    rhs_written (sides.LoadStatic f) h = field_sig_written f h
    rhs_written (sides.LoadElement x i) h = imm_written i h.1
    rhs_written (sides.New t) h = name_of_names t h
    rhs_written (sides.NewArray ty x) h = (type_written ty h.0, imm_written x h.1)
    rhs_written (sides.NewMulti m) h = (type_written m.ty h.ty, imms_written m.lengths h.lengths, subst (λ k. 0 < k) (sym (length-map m.lengths (imm_of bytes s))) h.some)
    rhs_written (sides.InstanceOf x ty) h = (imm_written x h.0, type_written ty h.1)
    rhs_written (sides.Length x) h = imm_written x h
    rhs_written (sides.Neg x) h = imm_written x h
    rhs_written (sides.Binary left op right) h = (imm_written left h.0, imm_written right h.2)
    rhs_written (sides.Call k) h = call_written k h

    case_written : (c : RawCase) → raw.CaseFits P n c → CaseIsWritten (case_of bytes s c)
    case_written c h = number_written bytes n c.value h.0

    stmt_written : (x : RawStmt) → raw.StmtFits P n x → StmtIsWritten (stmt_of bytes s x)
    stmt_written (stmts.Identity x given) h = given_written given h.1
    stmt_written (stmts.Assign x r) h = (tt, rhs_written r h.1)
    stmt_written (stmts.StoreField x f v) h = (field_sig_written f h.1, imm_written v h.2)
    stmt_written (stmts.StoreElement x i v) h = (imm_written i h.1, imm_written v h.2)
    stmt_written (stmts.StoreStatic f v) h = (field_sig_written f h.0, imm_written v h.1)
    stmt_written (stmts.Call k) h = call_written k h
    stmt_written (stmts.If left cond right target) h = (imm_written left h.0, imm_written right h.2)
    stmt_written (stmts.Goto target) h = tt
    stmt_written (stmts.Switch w) h = (imm_written w.key h.key, each_mapped (case_of bytes s) (raw.CaseFits P n) CaseIsWritten case_written w.cases h.cases)
    stmt_written (stmts.Return None) h = tt
    stmt_written (stmts.Return (Some x)) h = imm_written x h
    stmt_written (stmts.Throw x) h = imm_written x h
    stmt_written stmts.Nop h = tt
    stmt_written (stmts.Enter x) h = imm_written x h
    stmt_written (stmts.Exit x) h = imm_written x h

    items_written : (xs : List RawItem) → All (raw.ItemFits P n) xs → AllByRecursion StmtIsWritten (map (stmt_of bytes s) (stmts_of xs))
    items_written [] h = tt
    items_written (items.Label t ∷ xs) h = items_written xs (All-tail (raw.ItemFits P n) (items.Label t) xs h)
    items_written (items.Stmt x ∷ xs) h = (stmt_written x (All-head (raw.ItemFits P n) (items.Stmt x) xs h), items_written xs (All-tail (raw.ItemFits P n) (items.Stmt x) xs h))

    catch_written : (c : RawCatch) → raw.CatchFits P n c → CatchIsWritten (catch_of bytes s c)
    catch_written c h = name_of_names c.class h.class

  -- Bodies

  decl_written : (d : RawDecl) → raw.DeclFits P n d → AllByRecursion LocalIsWritten (locals_of bytes d)
  decl_written d h = each_mapped (declares bytes d) (raw.Is P n names) LocalIsWritten (λ t k. (name_of_names t k, type_written d.ty h.0)) d.names h.1

  decls_written : (ds : List RawDecl) → All (raw.DeclFits P n) ds → AllByRecursion LocalIsWritten (flat_map (locals_of bytes) ds)
  decls_written [] h = tt
  decls_written (d ∷ ds) h = both_all LocalIsWritten (locals_of bytes d) (flat_map (locals_of bytes) ds) (decl_written d (All-head (raw.DeclFits P n) d ds h)) (decls_written ds (All-tail (raw.DeclFits P n) d ds h))

  body_written : (b : RawBody) → raw.BodyFits P n b → body_fault bytes b ≡ None → BodyIsWritten (body_of bytes b)
  body_written b h e =
      let F = raw.ItemFits P n in
      let all : All F (items_of b.code) = All-append F (map items.Label b.code.labels) (items.Stmt b.code.front ∷ b.code.rest)
      (All-map F items.Label b.code.labels h.code.labels) (All-cons F (items.Stmt b.code.front) b.code.rest h.code.front h.code.rest) in
      record {
        locals = decls_written b.decls h.decls;
        distinct = body_distinct bytes b e;
        few = body_few bytes P n small b h;
        stmts = items_written (scope_of bytes b) (items_of b.code) all;
        catches = each_mapped (catch_of bytes (scope_of bytes b)) (raw.CatchFits P n) CatchIsWritten (catch_written (scope_of bytes b)) b.catches h.catches;
      }

  -- Members and classes

  optional_body_written : (b : Option RawBody) → raw.OptionalBodyFits P n b → optional_body_fault bytes b ≡ None → OptionalBodyIsWritten (option_map (body_of bytes) b)
  optional_body_written None h e = tt
  optional_body_written (Some b) h e = body_written b h e

  field_written : (h : RawHead) → raw.HeadFits P n h → FieldIsWritten (field_of bytes h)
  field_written h f = record { modifiers = modifiers_written h.modifiers f.modifiers; type = type_written h.ty f.ty; name = name_of_words h.name f.name }

  method_written : (h : RawHead) (m : RawMethod) → raw.HeadFits P n h → raw.MethodFits P n m → optional_body_fault bytes m.body ≡ None → MethodIsWritten (method_of bytes h m)
  method_written h m f g e = record {
    modifiers = modifiers_written h.modifiers f.modifiers;
    returned = type_written h.ty f.ty;
    name = name_of_words h.name f.name;
    params = types_written m.params g.params;
    throws = names_written m.throws g.throws;
    body = optional_body_written m.body g.body e;
  }

  fields_written : (xs : List RawMember) → All (raw.MemberFits P n) xs → AllByRecursion FieldIsWritten (filter_map (field_in bytes) xs)
  fields_written [] h = tt
  fields_written (members.Field k ∷ xs) h = (field_written k (All-head (raw.MemberFits P n) (members.Field k) xs h), fields_written xs (All-tail (raw.MemberFits P n) (members.Field k) xs h))
  fields_written (members.Method k m ∷ xs) h = fields_written xs (All-tail (raw.MemberFits P n) (members.Method k m) xs h)

  member_written : (before : List RawMember) (x : RawMember) (y : Method) → raw.MemberFits P n x → member_fault bytes before x ≡ None → method_in bytes x ≡ Some y → MethodIsWritten y
  member_written before (members.Field h) y f e is = absurd (none_some y (sym is))
  member_written before (members.Method h m) y f e is =
      let parts = or_none (double (list_any (same_member bytes (members.Method h m)) before) h.name) (optional_body_fault bytes m.body) e in
      subst MethodIsWritten (some_is (method_of bytes h m) y is) (method_written h m f.0 f.1 parts.1)
    where
      some_is : (u v : Method) → ◌≡◌ {A = Option Method} (Some u) (Some v) → u ≡ v
      some_is u v same = cc

  pub class_written : (c : RawClass) → raw.ClassFits P n c → class_fault bytes c ≡ None → ClassIsWritten (class_of bytes c)
  class_written c h e = record {
    modifiers = modifiers_written c.modifiers h.modifiers;
    name = name_of_names c.heading.name h.heading.name;
    extends = names_written c.heading.extends h.heading.extends;
    implements = names_written c.heading.implements h.heading.implements;
    fields = fields_written c.members h.members;
    methods = recursion_from_All MethodIsWritten (filter_map (method_in bytes) c.members) (each_in_turn (method_in bytes) (member_fault bytes) (raw.MemberFits P n) MethodIsWritten member_written c.members [] h.members e);
  }
