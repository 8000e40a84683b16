use Rattle.std.proofs.Common.{ℕ, List, sym, ap, ◌∙◌}
use Rattle.reach_rows.specs.Bits.{has_bit}
use Rattle.reach_rows.proofs.Closed.{lists_has}
use Rattle.reach_rows.proofs.closure.Rows.has.Goals as goal

pub returns : goal.returns
returns c =
    let s = c.self.inside in
    let within = rw (← c.self.view_is) at c.requires in
    rw (← c.self.view_is) (c.bit.ensures ∙ ap (λ (ws : List ℕ). has_bit s.width ws c.args.a c.args.b) c.as_slice.ensures.value ∙ sym (lists_has s.count s.width s.bits.items c.args.a c.args.b within.0 within.1))
