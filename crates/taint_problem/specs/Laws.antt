-- Every statement's method is one of the program's, also where a number counts as the root's.
use Rattle.std.specs.Prelude.{◌⊎◌, ◌<◌, ◌≤◌, ℕ, zero, suc, length}
use Rattle.std.proofs.Common.{arith, inl, inr, subst, sym}
use Rattle.std.proofs.Math.ListN.{get_or-eq_default}
use Rattle.std.proofs.lemmas.List.{get_or_default}
use Rattle.clean_base.specs.declared.ids.MethodId.{MethodId}
use Rattle.clean_base.specs.declared.ids.StmtId.{StmtId}
use Rattle.flow_rules.specs.Code.{Code, IsWhole, method_of}

less_or_not : (m n : ℕ) → (m < n) ⊎ (n ≤ m)
less_or_not m zero = inr (omega arith)
less_or_not zero (suc n) = inl (omega arith)
less_or_not (suc m) (suc n) = elim (less_or_not m n) [ inl less ↦ inl (omega (arith, less)) | inr more ↦ inr (omega (arith, more)) ]

pub stmt_within : (code : Code) → IsWhole code → (s : StmtId) → (method_of code s).0 < length code.firsts
stmt_within code whole s = elim (less_or_not s.0 (length code.owners)) [
  | inl below ↦ whole.owners (method_of code s) (s.0, below, get_or_default code.owners s.0 (method_of code s) code.root below)
  | inr past ↦ subst (λ (m : MethodId). m.0 < length code.firsts) (sym (get_or-eq_default code.owners code.root past)) whole.root
]
