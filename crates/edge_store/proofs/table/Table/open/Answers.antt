use Rattle.std.proofs.Common.{◌≡◌, ◌<◌, ◌+◌, length, arith, ap, ◌∙◌}
use Rattle.std.proofs.lemmas.List.{length_push}
use Rattle.edge_store.proofs.Listed.{distinct_push}
use Rattle.edge_store.proofs.table.Table.open.Goals as goal

pub invariant_of-self : goal.invariant_of-self
invariant_of-self c =
    let pages : length c.place_new-self-inside.new.set.keys ≡ length c.self.inside.pages.keys + 1 = ap length c.place_new-self-inside.ensures.keys ∙ length_push c.self.inside.pages.keys _ in
    let bits : length c.push.new.self.items ≡ length c.self.inside.bits.items + 1 = ap length c.in-Ok.ensures.items ∙ length_push c.self.inside.bits.items _ in
    let room : 0 < c.self.inside.room = rw (← c.self.view_is) at c.requires.room in
    record {
      even = omega arith;
      distinct = rw c.place_new-self-inside.ensures.keys (distinct_push c.self.inside.pages.keys _ c.self.invariant.distinct (rw (← c.self.view_is) at c.requires.fresh));
      pages_fit = omega arith;
      bits_fit = omega arith;
      few = omega arith;
    }
