use Rattle.std.proofs.Common.{◌≡◌, ◌<◌, ℕ, get_or, length, arith, cond, ap, ◌∙◌}
use Rattle.std.specs.Prelude.{nat_lt}
use Rattle.std.proofs.lemmas.List.{get_or_default}
use Rattle.edge_store.proofs.Pooled.{recount, used_within, within_used, positive}
use Rattle.edge_store.proofs.pool.Pool.down.Goals as goal

pub invariant_of-self : goal.invariant_of-self
invariant_of-self g c =
    let counts = c.self.inside.counts.items in
    let n = c.args.number in
    let some : 0 < get_or counts n 0 = rw (← c.self.view_is) at c.requires in
    let inside = used_within c.self.inside.facts.keys counts c.self.inside.live c.self.inside.used n c.self.invariant some in
    let short : n < length counts = omega (arith, c.self.invariant.even) in
    let read : c.index.result.now ≡ get_or counts n 0 = c.index.ensures ∙ get_or_default counts n c.index.result.now 0 short in
    let one : cond {A = ℕ} (nat_lt 0 (get_or counts n 0)) 1 0 ≡ 1 = ap (λ b. cond {A = ℕ} b 1 0) (positive (get_or counts n 0) some) in
    recount c.self.inside.facts.keys counts c.self.inside.live c.self.inside.used n c.self.invariant _ inside _ _
    (omega (arith, within_used c.self.inside.facts.keys counts c.self.inside.live c.self.inside.used n c.self.invariant inside)) (omega (arith, one, c.one_less-self-inside.ensures))

pub invariant_of-self-else-count-eq0 : goal.invariant_of-self-else-count-eq0
invariant_of-self-else-count-eq0 g c =
    let counts = c.self.inside.counts.items in
    let n = c.args.number in
    let some : 0 < get_or counts n 0 = rw (← c.self.view_is) at c.requires in
    let inside = used_within c.self.inside.facts.keys counts c.self.inside.live c.self.inside.used n c.self.invariant some in
    let short : n < length counts = omega (arith, c.self.invariant.even) in
    let read : c.index.result.now ≡ get_or counts n 0 = c.index.ensures ∙ get_or_default counts n c.index.result.now 0 short in
    let one : cond {A = ℕ} (nat_lt 0 (get_or counts n 0)) 1 0 ≡ 1 = ap (λ b. cond {A = ℕ} b 1 0) (positive (get_or counts n 0) some) in
    recount c.self.inside.facts.keys counts c.self.inside.live c.self.inside.used n c.self.invariant _ inside _ _
    (omega (arith, within_used c.self.inside.facts.keys counts c.self.inside.live c.self.inside.used n c.self.invariant inside)) (omega (arith, one, c.one_less-self-inside.ensures))
