use Rattle.std.proofs.Common.{◌≡◌, ◌+◌, ◌<◌, ◌≤◌, ℕ, take, get_or}
use Rattle.std.specs.List.{sum}
use Rattle.jimple_tree.proofs.labels.add_up.Given as goal

abbrev pub invariant-loop-mark : goal.invariant-loop-mark
invariant-loop-mark l =
    record {
      small : l.count ≤ l.mark-index;
      count : l.count ≡ sum (take l.mark-index l.fn.marks);
      done : (k : ℕ) → k < l.mark-index → get_or l.marks k 0 ≡ sum (take (k + 1) l.fn.marks);
      rest : (k : ℕ) → l.mark-index ≤ k → get_or l.marks k 0 ≡ get_or l.fn.marks k 0;
    }
