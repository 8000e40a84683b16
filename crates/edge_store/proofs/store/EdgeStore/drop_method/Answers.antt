use Rattle.std.proofs.Common.{arith, ◌≡◌, ◌<◌, ◌+◌, ℕ, length, get_or, subst, sym, ap, ◌∙◌}
use Rattle.ifds_model.specs.Runs.{HasCount}
use Rattle.edge_store.specs.Pages.{uses_of}
use Rattle.edge_store.specs.Store.{Holds, store_of}
use Rattle.edge_store.proofs.Stored.{held_here, held_past, drop_gone, drop_kept, drop_from, drop_others, drop_store}
use Rattle.edge_store.proofs.store.EdgeStore.drop_method.Goals as goal

pub returns-then-at-len-clause-count : goal.returns-then-at-len-clause-count
returns-then-at-len-clause-count g c = rw (← c.self.view_is) (held_past c.self.inside.pool c.self.inside.tables.items c.self.inside.room c.self.invariant c.args.m (omega arith))

pub invariant_of-self : goal.invariant_of-self
invariant_of-self g c =
    let tables = c.self.inside.tables.items in
    let t = c.replace-table.result in
    let within : c.args.m < length tables = omega arith in
    let same = c.replace-table.ensures.value in
    let is : t ≡ get_or tables c.args.m t = same ∙ c.index_mut.ensures.value ∙ ap (get_or tables c.args.m) (sym same) in
    let empty = c.replace-table.ensures.after ∙ c.new-empty.ensures.none in
    let counts : (n : ℕ) → get_or c.release_all.new.pool.counts n 0 + uses_of t.pages n ≡ get_or c.self.inside.pool.counts n 0 = rw c.pages.ensures at c.release_all.ensures.counts in
    rw c.room.ensures (drop_store c.self.inside.pool c.release_all.new.pool tables c.self.inside.room c.args.m c.self.invariant t c.replace-table.new.dest is within c.release_all.ensures.facts empty counts c.release_all.ensures.used c.release_all.ensures.spare)

pub returns-clause-count : goal.returns-clause-count
returns-clause-count g c =
    let tables = c.self.inside.tables.items in
    let t = c.replace-table.result in
    let within : c.args.m < length tables = omega arith in
    let same = c.replace-table.ensures.value in
    let is : t ≡ get_or tables c.args.m t = same ∙ c.index_mut.ensures.value ∙ ap (get_or tables c.args.m) (sym same) in
    let empty = c.replace-table.ensures.after ∙ c.new-empty.ensures.none in
    rw (← c.self.view_is) (subst (HasCount (Holds (store_of c.self.inside.pool.facts tables) c.args.m)) (sym c.held.ensures.is) (held_here c.self.inside.pool c.self.inside.tables.items c.self.inside.room c.self.invariant c.args.m t is within))

pub returns-clause-gone : goal.returns-clause-gone
returns-clause-gone g c =
    let tables = c.self.inside.tables.items in
    let t = c.replace-table.result in
    let within : c.args.m < length tables = omega arith in
    let same = c.replace-table.ensures.value in
    let is : t ≡ get_or tables c.args.m t = same ∙ c.index_mut.ensures.value ∙ ap (get_or tables c.args.m) (sym same) in
    let empty = c.replace-table.ensures.after ∙ c.new-empty.ensures.none in
    drop_gone c.self.inside.pool c.release_all.new.pool tables c.self.inside.room c.args.m c.self.invariant t c.replace-table.new.dest is within c.release_all.ensures.facts empty

pub returns-clause-kept : goal.returns-clause-kept
returns-clause-kept g c =
    let tables = c.self.inside.tables.items in
    let t = c.replace-table.result in
    let within : c.args.m < length tables = omega arith in
    let same = c.replace-table.ensures.value in
    let is : t ≡ get_or tables c.args.m t = same ∙ c.index_mut.ensures.value ∙ ap (get_or tables c.args.m) (sym same) in
    let empty = c.replace-table.ensures.after ∙ c.new-empty.ensures.none in
    rw (← c.self.view_is) (drop_kept c.self.inside.pool c.release_all.new.pool tables c.self.inside.room c.args.m c.self.invariant t c.replace-table.new.dest is within c.release_all.ensures.facts empty)

pub returns-clause-from : goal.returns-clause-from
returns-clause-from g c =
    let tables = c.self.inside.tables.items in
    let t = c.replace-table.result in
    let within : c.args.m < length tables = omega arith in
    let same = c.replace-table.ensures.value in
    let is : t ≡ get_or tables c.args.m t = same ∙ c.index_mut.ensures.value ∙ ap (get_or tables c.args.m) (sym same) in
    let empty = c.replace-table.ensures.after ∙ c.new-empty.ensures.none in
    rw (← c.self.view_is) (drop_from c.self.inside.pool c.release_all.new.pool tables c.self.inside.room c.args.m c.self.invariant t c.replace-table.new.dest is within c.release_all.ensures.facts empty)

pub returns-clause-others : goal.returns-clause-others
returns-clause-others g c =
    let tables = c.self.inside.tables.items in
    let t = c.replace-table.result in
    let within : c.args.m < length tables = omega arith in
    let same = c.replace-table.ensures.value in
    let is : t ≡ get_or tables c.args.m t = same ∙ c.index_mut.ensures.value ∙ ap (get_or tables c.args.m) (sym same) in
    let empty = c.replace-table.ensures.after ∙ c.new-empty.ensures.none in
    rw (← c.self.view_is) (drop_others c.self.inside.pool c.release_all.new.pool tables c.self.inside.room c.args.m c.self.invariant t c.replace-table.new.dest is within c.release_all.ensures.facts empty)
