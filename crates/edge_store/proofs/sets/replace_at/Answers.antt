use Rattle.std.proofs.Common.{◌∙◌, ap, ◌-◌, ◌++◌, ◌∷◌, [], length}
use Rattle.std.specs.Prelude.{swap}
use Rattle.edge_store.proofs.Numbered.{replaced, taken_is}
use Rattle.edge_store.proofs.sets.replace_at.Goals as goal

pub returns-clause-keys : goal.returns-clause-keys
returns-clause-keys g c =
    let keys = c.args.set.now.keys in
    let taken = taken_is keys c.args.at c.args.item c.args.item c.requires.within c.swap_remove_index.result c.swap_remove_index.ensures.key c.swap_remove_index.new.self.keys c.swap_remove_index.ensures.keys in
    c.swap_indices.ensures.keys
    ∙ ap (λ n. swap c.place_new.new.set.keys c.args.at (n - 1)) c.len-last.ensures.len
    ∙ ap (λ xs. swap xs c.args.at (length keys - 1)) (c.place_new.ensures.keys ∙ ap (λ xs. xs ++ c.args.item ∷ []) taken.1)
    ∙ replaced keys c.args.at taken.0 c.args.item c.requires.within
