-- What calls are: what the lists say of them, and the methods that they may come to (docs/FLOW-RULES.md, "Calls").
use Rattle.std.specs.Prelude.{ℕ, Bool, List, Option, Some, None, IsTrue}
use Rattle.clean_base.specs.declared.ids.MethodId.{MethodId}
use Rattle.jimple_tree.specs.declared.tree.Class.{Class}
use Rattle.jimple_tree.specs.declared.tree.Invoke.{Invoke}
use Rattle.jimple_tree.specs.declared.tree.InvokeKind.{InvokeKind}
use Rattle.jimple_tree.specs.declared.tree.InvokeKind.TheVariants as kinds
use Rattle.jimple_tree.specs.declared.tree.Rhs.{Rhs}
use Rattle.jimple_tree.specs.declared.tree.Rhs.TheVariants as sides
use Rattle.jimple_tree.specs.declared.tree.Sig.{Sig}
use Rattle.jimple_tree.specs.declared.tree.Stmt.{Stmt}
use Rattle.jimple_tree.specs.declared.tree.Stmt.TheVariants as stmts
use Rattle.source_sink.specs.Lists.{Says}
use Rattle.source_sink.specs.declared.line.Kind.{Kind}
use Rattle.source_sink.specs.declared.line.Line.{Line}
use Rattle.class_table.specs.Concrete.{IsConcrete}
use Rattle.class_table.specs.Hierarchy.{Subtype}
use Rattle.class_table.specs.Resolving.{Resolves}

-- some line says so of the signature, with its class or one above it
abbrev pub IsKind : List Class → List Line → Sig → (Line → Bool) → Type 0
IsKind cs lines sig does = (name : List ℕ) × Subtype cs sig.class name × Says lines (record sig { class = name }) does

-- what the signature comes to on a concrete subtype of its class
abbrev pub ResolvesBelow : List Class → Sig → MethodId → Type 0
ResolvesBelow cs sig n = (name : List ℕ) × IsConcrete cs name × Subtype cs name sig.class × Resolves cs name sig n

-- a method that the call may come to
abbrev pub IsTargetOf : List Class → InvokeKind → Sig → MethodId → Type 0
IsTargetOf cs kinds.Static sig n = Resolves cs sig.class sig n
IsTargetOf cs kinds.Special sig n = Resolves cs sig.class sig n
IsTargetOf cs kinds.Virtual sig n = ResolvesBelow cs sig n
IsTargetOf cs kinds.Interface sig n = ResolvesBelow cs sig n

abbrev pub IsTarget : List Class → Invoke → MethodId → Type 0
IsTarget cs call n = IsTargetOf cs call.kind call.sig n

-- the lists say neither source nor sink of it
pub record IsPlain (cs : List Class) (lines : List Line) (sig : Sig) : Type 0 where
  pub no_source : IsKind cs lines sig (λ (l : Line). l.source) → ⊥
  pub no_sink : IsKind cs lines sig (λ (l : Line). l.sink) → ⊥

-- what is said is neither
pub record IsNeither (said : Kind) : Type 0 where
  pub no_source : IsTrue said.source → ⊥
  pub no_sink : IsTrue said.sink → ⊥

-- an open call may come to this method
pub record IsOpenTo (cs : List Class) (lines : List Line) (call : Invoke) (n : MethodId) : Type 0 where
  pub target : IsTarget cs call n
  pub plain : IsPlain cs lines call.sig

-- the call in a statement
abbrev pub call_of : Rhs → Option Invoke
call_of (sides.Call call) = Some call
call_of _ = None

abbrev pub call_in : Stmt → Option Invoke
call_in (stmts.Call call) = Some call
call_in (stmts.Assign place rhs) = call_of rhs
call_in _ = None
