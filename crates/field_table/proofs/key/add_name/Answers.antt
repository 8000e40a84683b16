use Rattle.std.proofs.Common.{ℕ, nat_eq, List, ap, ◌∙◌}
use lib.Pointwise.{pointwise}
use Rattle.indexmap.specs.IndexSet.{insert_key}
use Rattle.field_table.proofs.Keys.{pushed_at}
use Rattle.field_table.proofs.key.add_name.Goals as goal

pub returns-clause-at : goal.returns-clause-at
returns-clause-at c =
    let old = c.args.names.now.keys in
    pushed_at c.insert.new.self.keys old c.args.name.now c.len-place.result (c.in_ok-insert.ensures.keys ∙ ap (λ (x : List ℕ). insert_key (pointwise nat_eq) old x) c.in_ok-copy.ensures) c.in_default.ensures c.len-place.ensures.len
