use Rattle.std.proofs.Common.{List, ap, ◌∙◌}
use Rattle.field_table.proofs.Keys.{key_new, same_key}
use Rattle.indexmap.specs.IndexSet.{insert_key}
use Rattle.field_table.specs.declared.key.Key.{Key}
use Rattle.field_table.proofs.sigs.push.Goals as goal

pub returns-clause-key : goal.returns-clause-key
returns-clause-key c =
    key_new c.insert.new.self.keys c.args.keys.now.keys c.args.key
    (c.in-Ok.ensures.keys ∙ ap (λ (ks : List Key). insert_key same_key ks c.args.key) c.in_ok-reserve.ensures.keys) c.requires
