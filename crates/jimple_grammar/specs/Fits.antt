-- What each tree that is read fits: tokens of the text, of the kinds that stand in their places, and the grammar's rules on
-- numbers. `P` holds of the tokens of the text, of which there are `n`.
use Rattle.std.specs.Prelude.{◌≡◌, ℕ, ◌+◌, ◌≤◌, ◌<◌, true, false, List, [], ◌∷◌, ◌++◌, length, flat_map, Option, Some, None, All}
use Rattle.jimple_words.specs.declared.kind.Kind.TheVariants as kinds
use Rattle.jimple_grammar.specs.declared.lexeme.Lexeme.{Lexeme}
use Rattle.jimple_grammar.specs.declared.raw.RawBody.{RawBody}
use Rattle.jimple_grammar.specs.declared.raw.RawCall.{RawCall}
use Rattle.jimple_grammar.specs.declared.raw.RawCase.{RawCase}
use Rattle.jimple_grammar.specs.declared.raw.RawCatch.{RawCatch}
use Rattle.jimple_grammar.specs.declared.raw.RawClass.{RawClass}
use Rattle.jimple_grammar.specs.declared.raw.RawCode.{RawCode}
use Rattle.jimple_grammar.specs.declared.raw.RawDecl.{RawDecl}
use Rattle.jimple_grammar.specs.declared.raw.RawFieldSig.{RawFieldSig}
use Rattle.jimple_grammar.specs.declared.raw.RawGiven.{RawGiven}
use Rattle.jimple_grammar.specs.declared.raw.RawGiven.TheVariants as givens
use Rattle.jimple_grammar.specs.declared.raw.RawHead.{RawHead}
use Rattle.jimple_grammar.specs.declared.raw.RawHeading.{RawHeading}
use Rattle.jimple_grammar.specs.declared.raw.RawImm.{RawImm}
use Rattle.jimple_grammar.specs.declared.raw.RawImm.TheVariants as imms
use Rattle.jimple_grammar.specs.declared.raw.RawItem.{RawItem}
use Rattle.jimple_grammar.specs.declared.raw.RawItem.TheVariants as items
use Rattle.jimple_grammar.specs.declared.raw.RawMember.{RawMember}
use Rattle.jimple_grammar.specs.declared.raw.RawMember.TheVariants as members
use Rattle.jimple_grammar.specs.declared.raw.RawMethod.{RawMethod}
use Rattle.jimple_grammar.specs.declared.raw.RawNewMulti.{RawNewMulti}
use Rattle.jimple_grammar.specs.declared.raw.RawRhs.{RawRhs}
use Rattle.jimple_grammar.specs.declared.raw.RawRhs.TheVariants as sides
use Rattle.jimple_grammar.specs.declared.raw.RawSig.{RawSig}
use Rattle.jimple_grammar.specs.declared.raw.RawStmt.{RawStmt}
use Rattle.jimple_grammar.specs.declared.raw.RawStmt.TheVariants as stmts
use Rattle.jimple_grammar.specs.declared.raw.RawSwitch.{RawSwitch}
use Rattle.jimple_grammar.specs.declared.raw.RawType.{RawType}
use Rattle.jimple_words.specs.Kind.{Kinds, has}
use Rattle.jimple_words.specs.Sets.{names, types, words, modifiers, constants, conditions, operators, based_calls, switches}
use Rattle.clean_base.specs.Limits.{most_locals, most_params}

-- the names of a declaration
abbrev pub names_of : RawDecl → List Lexeme
names_of d = d.names

module _ (P : Lexeme → Type 0) (n : ℕ) where
  -- a token of the text, of one of these kinds
  abbrev pub Is : Kinds → Lexeme → Type 0
  Is ks t = P t × (has ks t.kind ≡ true)

  -- Types and signatures

  abbrev pub TypeFits : RawType → Type 0
  TypeFits ty = Is types ty.base

  pub record SigFits (s : RawSig) : Type 0 where
    pub class : Is names s.class
    pub result : TypeFits s.result
    pub name : Is words s.name
    pub params : All TypeFits s.params

  pub record FieldSigFits (s : RawFieldSig) : Type 0 where
    pub class : Is names s.class
    pub ty : TypeFits s.ty
    pub name : Is words s.name

  -- Operands and calls

  abbrev pub ImmFits : RawImm → Type 0
  ImmFits (imms.Local t) = Is names t
  ImmFits (imms.Literal t) = Is constants t
  ImmFits (imms.Class t) = Is (kinds.Text ∷ []) t

  -- a call has a base exactly where it isn't static
  abbrev pub BaseFits : Lexeme → Option Lexeme → Type 0
  BaseFits word None = Is (kinds.Staticinvoke ∷ []) word
  BaseFits word (Some base) = Is based_calls word × Is names base

  -- as many arguments as the signature has parameters
  pub record CallFits (k : RawCall) : Type 0 where
    pub base : BaseFits k.callee.word k.callee.base
    pub sig : SigFits k.callee.sig
    pub args : All ImmFits k.args
    pub count : length k.args ≡ length k.callee.sig.params

  -- Right sides and statements

  abbrev pub GivenFits : RawGiven → Type 0
  GivenFits (givens.This ty) = TypeFits ty
  GivenFits (givens.Param word ty) = Is (kinds.Parameter ∷ []) word × TypeFits ty
  GivenFits givens.Caught = Unit {0}

  -- one length at least
  pub record NewMultiFits (m : RawNewMulti) : Type 0 where
    pub ty : TypeFits m.ty
    pub some : 0 < length m.lengths
    pub lengths : All ImmFits m.lengths
    pub bare : m.bare < n

  abbrev pub RhsFits : RawRhs → Type 0
  RhsFits (sides.Use x) = ImmFits x
  RhsFits (sides.Cast ty x) = TypeFits ty × ImmFits x
  RhsFits (sides.Load x f) = Is names x × FieldSigFits f
  RhsFits (sides.LoadStatic f) = FieldSigFits f
  RhsFits (sides.LoadElement x i) = Is names x × ImmFits i
  RhsFits (sides.New t) = Is names t
  RhsFits (sides.NewArray ty x) = TypeFits ty × ImmFits x
  RhsFits (sides.NewMulti m) = NewMultiFits m
  RhsFits (sides.InstanceOf x ty) = ImmFits x × TypeFits ty
  RhsFits (sides.Length x) = ImmFits x
  RhsFits (sides.Neg x) = ImmFits x
  RhsFits (sides.Binary left op right) = ImmFits left × Is operators op × ImmFits right
  RhsFits (sides.Call k) = CallFits k

  abbrev pub CaseFits : RawCase → Type 0
  CaseFits c = Is (kinds.Number ∷ []) c.value × Is names c.target

  pub record SwitchFits (s : RawSwitch) : Type 0 where
    pub word : Is switches s.word
    pub key : ImmFits s.key
    pub cases : All CaseFits s.cases
    pub default : Is names s.default

  abbrev pub StmtFits : RawStmt → Type 0
  StmtFits (stmts.Identity x given) = Is names x × GivenFits given
  StmtFits (stmts.Assign x r) = Is names x × RhsFits r
  StmtFits (stmts.StoreField x f v) = Is names x × FieldSigFits f × ImmFits v
  StmtFits (stmts.StoreElement x i v) = Is names x × ImmFits i × ImmFits v
  StmtFits (stmts.StoreStatic f v) = FieldSigFits f × ImmFits v
  StmtFits (stmts.Call k) = CallFits k
  StmtFits (stmts.If left cond right target) = ImmFits left × Is conditions cond × ImmFits right × Is names target
  StmtFits (stmts.Goto target) = Is names target
  StmtFits (stmts.Switch s) = SwitchFits s
  StmtFits (stmts.Return None) = Unit {0}
  StmtFits (stmts.Return (Some x)) = ImmFits x
  StmtFits (stmts.Throw x) = ImmFits x
  StmtFits stmts.Nop = Unit {0}
  StmtFits (stmts.Enter x) = ImmFits x
  StmtFits (stmts.Exit x) = ImmFits x

  -- Bodies

  abbrev pub ItemFits : RawItem → Type 0
  ItemFits (items.Label t) = Is names t
  ItemFits (items.Stmt s) = StmtFits s

  -- fewer labels and statements than tokens
  pub record CodeFits (c : RawCode) : Type 0 where
    pub labels : All (Is names) c.labels
    pub front : StmtFits c.front
    pub rest : All ItemFits c.rest
    pub few : length c.labels + length c.rest < n

  pub record CatchFits (c : RawCatch) : Type 0 where
    pub class : Is names c.class
    pub from : Is names c.from
    pub to : Is names c.to
    pub with : Is names c.with

  abbrev pub DeclFits : RawDecl → Type 0
  DeclFits d = TypeFits d.ty × All (Is names) d.names

  pub record BodyFits (b : RawBody) : Type 0 where
    pub decls : All DeclFits b.decls
    pub locals : length (flat_map names_of b.decls) ≤ most_locals
    pub code : CodeFits b.code
    pub catches : All CatchFits b.catches

  -- Members and classes

  pub record HeadFits (h : RawHead) : Type 0 where
    pub modifiers : All (Is (modifiers ++ kinds.Further ∷ [])) h.modifiers
    pub ty : TypeFits h.ty
    pub name : Is words h.name

  abbrev pub OptionalBodyFits : Option RawBody → Type 0
  OptionalBodyFits None = Unit {0}
  OptionalBodyFits (Some b) = BodyFits b

  pub record MethodFits (m : RawMethod) : Type 0 where
    pub params : All TypeFits m.params
    pub few : length m.params ≤ most_params
    pub throws : All (Is names) m.throws
    pub body : OptionalBodyFits m.body

  abbrev pub MemberFits : RawMember → Type 0
  MemberFits (members.Field h) = HeadFits h
  MemberFits (members.Method h m) = HeadFits h × MethodFits m

  pub record HeadingFits (h : RawHeading) : Type 0 where
    pub name : Is names h.name
    pub extends : All (Is names) h.extends
    pub superclass : h.is_interface ≡ false → length h.extends ≤ 1
    pub implements : All (Is names) h.implements

  pub record ClassFits (c : RawClass) : Type 0 where
    pub modifiers : All (Is (modifiers ++ kinds.Further ∷ [])) c.modifiers
    pub heading : HeadingFits c.heading
    pub members : All MemberFits c.members
