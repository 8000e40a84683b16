use Rattle.std.proofs.Common.{◌∙◌, sym, ap, List, ℕ, nat_eq, rules}
use Rattle.std.specs.Borrow.{Bor}
use Rattle.std.specs.Cmp.Lexicographic.{pointwise}
use Rattle.std.specs.HashMap.{get_by}
use Rattle.jimple_names.proofs.Unquoted.{plain}
use Rattle.jimple_names.proofs.scope.look_up.Goals as goal

pub returns-else-is_quoted : goal.returns-else-is_quoted
returns-else-is_quoted c =
    let not_quoted = c.if-is_quoted.false in
    let same = plain c.args.word.now (search (rules, not_quoted)) in
    let copied = c.copied-else-is_quoted.ensures in
    let value = c.get-else-is_quoted.ensures.value in
    λ q h. copied ∙ value ∙ ap (λ (name : List ℕ). get_by (λ (k : Bor (List ℕ)). pointwise nat_eq name k.now) c.args.numbers.now) (sym (h ∙ same))
