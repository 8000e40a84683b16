-- A small machine for the tests, by cases on the move. Method 0 has three statements and calls method 1 at the second;
-- behind the call it marks the third, with the fact. Method 1 starts at its last statement, at which it exits with the
-- fact. A recursive machine starts it at the statement before as well: there it calls itself with the other of two facts,
-- and goes on at the last.
use Rattle.std.specs.Prelude.{◌≡◌, ◌⊎◌, ◌<◌, ℕ, Bool, true, false, cond, nat_eq, nat_lt}
use Rattle.std.proofs.Common.{sym, ◌∙◌, ap, inl, inr, arith}
use Rattle.clean_base.specs.declared.ids.LocalId.{LocalId}
use Rattle.clean_base.specs.declared.ids.MethodId.{MethodId}
use Rattle.clean_base.specs.declared.ids.StmtId.{StmtId}
use Rattle.ifds_model.specs.Machine.{Machine}
use Rattle.ifds_model.specs.declared.node.Context.{Context}
use Rattle.ifds_model.specs.declared.node.Dir.TheVariants.{Forward}
use Rattle.ifds_model.specs.declared.node.Move.{Move}
use Rattle.ifds_model.specs.declared.node.Move.TheVariants.{Go, Call, Exit, Mark}
use Rattle.ifds_model.specs.declared.node.Node.{Node}

abbrev pub method : ℕ → MethodId
method n = record { 0 = n }

abbrev pub before : ℕ → Node
before place = record { stmt = record { 0 = place }; dir = Forward }

abbrev pub entered : ℕ → LocalId → Context LocalId
entered n f = record { method = method n; dir = Forward; fact = f }

abbrev pub other : LocalId → LocalId
other f = record { 0 = cond (nat_eq f.0 7) 8 7 }

-- the starts of method 1
abbrev pub LastStart : Bool → Node → Type 0
LastStart recursive n = (n ≡ before 4) ⊎ ((recursive ≡ true) × (n ≡ before 3))

abbrev pub Start : Bool → Context LocalId → Node → Type 0
Start recursive e n = ((e.method.0 ≡ 0) × (n ≡ before 0)) ⊎ ((e.method.0 ≡ 1) × LastStart recursive n)

abbrev pub Step : Node → LocalId → Move LocalId LocalId → Type 0
Step n f (Go m g) = (n ≡ before 0) × (m ≡ before 1) × (g ≡ f)
Step n f (Call at e) = (at ≡ n.stmt) × (((n ≡ before 1) × (e ≡ entered 1 f)) ⊎ ((n ≡ before 3) × (e ≡ entered 1 (other f))))
Step n f (Exit x) = (n ≡ before 4) × (x ≡ f)
Step n f (Mark l) = (n ≡ before 2) × (l ≡ f)

abbrev pub Back : StmtId → LocalId → Move LocalId LocalId → Type 0
Back call x m = ((call.0 ≡ 1) × (m ≡ Go (before 2) x)) ⊎ ((call.0 ≡ 3) × (m ≡ Go (before 4) x))

abbrev pub machine : Bool → Machine LocalId LocalId
machine recursive = record {
  root = entered 0 (record { 0 = 7 });
  start = Start recursive;
  step = Step;
  back = Back;
}

-- the first three statements are those of method 0
abbrev pub method_of : StmtId → MethodId
method_of s = method (cond (nat_lt s.0 3) 0 1)

-- each method reaches itself, and method 0 all
abbrev pub Reaches : MethodId → MethodId → Type 0
Reaches m n = (m ≡ n) ⊎ (m.0 ≡ 0)

pub starts_inside : (recursive : Bool) (e : Context LocalId) (n : Node) → Start recursive e n → method_of n.stmt ≡ e.method
starts_inside recursive e n (inl s) = ap (λ (m : Node). method_of m.stmt) s.1 ∙ ap (λ (k : ℕ). method k) (sym s.0)
starts_inside recursive e n (inr s) = elim s.1 [
  | inl last ↦ ap (λ (m : Node). method_of m.stmt) last ∙ ap (λ (k : ℕ). method k) (sym s.0)
  | inr first ↦ ap (λ (m : Node). method_of m.stmt) first.1 ∙ ap (λ (k : ℕ). method k) (sym s.0)
]

pub goes_inside : (n m : Node) (f g : LocalId) → Step n f (Go m g) → method_of m.stmt ≡ method_of n.stmt
goes_inside n m f g s = ap (λ (k : Node). method_of k.stmt) s.1 ∙ sym (ap (λ (k : Node). method_of k.stmt) s.0)

pub calls_reach : (n : Node) (f : LocalId) (at : StmtId) (e : Context LocalId) → Step n f (Call at e) → Reaches (method_of n.stmt) e.method
calls_reach n f at e s = elim s.1 [
  | inl first ↦ inr (ap (λ (k : Node). (method_of k.stmt).0) first.0)
  | inr again ↦ inl (ap (λ (k : Node). method_of k.stmt) again.0 ∙ sym (ap (λ (d : Context LocalId). d.method) again.1))
]

pub back_goes : (call : StmtId) (x : LocalId) (m : Move LocalId LocalId) → Back call x m → (n : Node) × (f : LocalId) × (m ≡ Go n f)
back_goes call x m (inl s) = (before 2, x, s.1)
back_goes call x m (inr s) = (before 4, x, s.1)

pub back_inside : (call : StmtId) (x : LocalId) (n : Node) (f : LocalId) → Back call x (Go n f) → method_of n.stmt ≡ method_of call
back_inside call x n f (inl s) = let at : n ≡ before 2 = cc (s.1) in ap (λ (m : Node). method_of m.stmt) at ∙ sym (ap (λ (k : ℕ). method (cond (nat_lt k 3) 0 1)) s.0)
back_inside call x n f (inr s) = let at : n ≡ before 4 = cc (s.1) in ap (λ (m : Node). method_of m.stmt) at ∙ sym (ap (λ (k : ℕ). method (cond (nat_lt k 3) 0 1)) s.0)

pub reaches_on : (l m n : MethodId) → Reaches l m → Reaches m n → Reaches l n
reaches_on l m n (inr zero) b = inr zero
reaches_on l m n (inl same) (inl again) = inl (same ∙ again)
reaches_on l m n (inl same) (inr zero) = inr (ap (λ (k : MethodId). k.0) same ∙ zero)

pub within : (b : Bool) → cond b 0 1 < 2
within true = omega arith
within false = omega arith

pub called_within : (n : Node) (f : LocalId) (at : StmtId) (e : Context LocalId) → Step n f (Call at e) → e.method.0 < 2
called_within n f at e s = elim s.1 [
  | inl first ↦ let one : e.method.0 ≡ 1 = ap (λ (d : Context LocalId). d.method.0) first.1 in omega (arith, one)
  | inr again ↦ let one : e.method.0 ≡ 1 = ap (λ (d : Context LocalId). d.method.0) again.1 in omega (arith, one)
]
