use Rattle.std.proofs.Common.{◌≡◌, ◌≤◌, List, ℕ, nat_eq, length, drop}
use Rattle.std.specs.Borrow.{Bor}
use Rattle.std.specs.Cmp.Lexicographic.{pointwise}
use Rattle.std.specs.HashMap.{get}
use Rattle.std.specs.List.{position_from}
use Rattle.std.specs.Str.{bytes_eq}
use Rattle.jimple_tree.specs.declared.tree.Local.{Local}
use Rattle.jimple_names.proofs.scope.number_locals.Given as goal

abbrev pub invariant-loop-number : goal.invariant-loop-number
invariant-loop-number l = record {
  inside : l.number ≤ length l.locals;
  numbered : (q : Bor (List ℕ)) → get (λ x y. pointwise nat_eq x.now y.now) l.numbers q ≡ position_from (λ (l : Local). bytes_eq l.name q.now) l.number (drop l.number l.locals);
}

abbrev pub decreases-loop-number : goal.decreases-loop-number
decreases-loop-number l = l.number
