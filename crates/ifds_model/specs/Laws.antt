-- What a machine owes over its methods: the laws of the trait `Problem`, gathered for lemmas about machines.
use Rattle.std.specs.Prelude.{◌≡◌, ◌↔◌, ◌<◌, ℕ}
use Rattle.clean_base.specs.declared.ids.MethodId.{MethodId}
use Rattle.clean_base.specs.declared.ids.StmtId.{StmtId}
use Rattle.ifds_model.specs.declared.node.Context.{Context}
use Rattle.ifds_model.specs.declared.node.Node.{Node}
use Rattle.ifds_model.specs.declared.node.Move.{Move}
use Rattle.ifds_model.specs.declared.node.Move.TheVariants.{Go, Call}
use Rattle.ifds_model.specs.Machine.{Machine}

pub record IsLawful {F M : Type 0} (P : Machine F M) (method_of : StmtId → MethodId) (reaches : MethodId → MethodId → Type 0) : Type 0 where
  -- the root has one start, and contexts start in their own method
  pub one_start : (n : Node) × ((m : Node) → P.start P.root m ↔ (m ≡ n))
  pub starts_inside : (e : Context F) (n : Node) → P.start e n → method_of n.stmt ≡ e.method
  -- a fact goes on in its method
  pub goes_inside : (n m : Node) (f g : F) → P.step n f (Go m g) → method_of m.stmt ≡ method_of n.stmt
  -- a call stands at the statement of its node, and the called method is reached
  pub calls_here : (n : Node) (f : F) (at : StmtId) (e : Context F) → P.step n f (Call at e) → at ≡ n.stmt
  pub calls_reach : (n : Node) (f : F) (at : StmtId) (e : Context F) → P.step n f (Call at e) → reaches (method_of n.stmt) e.method
  -- a caller only goes on behind its call, in the call's method
  pub back_goes : (call : StmtId) (x : F) (m : Move F M) → P.back call x m → (n : Node) × (f : F) × (m ≡ Go n f)
  pub back_inside : (call : StmtId) (x : F) (n : Node) (f : F) → P.back call x (Go n f) → method_of n.stmt ≡ method_of call
  -- each method reaches itself, and what those reach that it reaches
  pub reaches_itself : (m : MethodId) → reaches m m
  pub reaches_on : (l m n : MethodId) → reaches l m → reaches m n → reaches l n

-- all methods of statements and contexts are below their number
pub record IsWithin {F M : Type 0} (P : Machine F M) (method_of : StmtId → MethodId) (methods : ℕ) : Type 0 where
  pub root : P.root.method.0 < methods
  pub stmts : (s : StmtId) → (method_of s).0 < methods
  pub called : (n : Node) (f : F) (at : StmtId) (e : Context F) → P.step n f (Call at e) → e.method.0 < methods
