use Rattle.std.proofs.Common.{◌≡◌, ◌<◌, ◌-◌, ◌∙◌, [], ℕ, List, length, take, vec_len, sym, ap, subst, arith}
use Rattle.std.proofs.lemmas.List.{get_or_read}
use Rattle.std.proofs.lemmas.List.Elements.{Contains-push}
use Rattle.reach_rows.specs.Graphs.{row}
use Rattle.reach_rows.specs.Cycles.{IsFlood, IsAdded, IsWhole}
use Rattle.reach_rows.proofs.Paths.{row_within}
use Rattle.reach_rows.proofs.Floods.{flood_begins, flood_more, flood_ends, none_waits, take_none}
use Rattle.reach_rows.proofs.cycle.Flood.spread.Goals as goal

pub loop-next-init : goal.loop-next-init
loop-next-init c =
    let s = c.args.self.now in
    let new = c.add.new.self in
    flood_begins c.args.rows.now c.args.node s.seen.items new.seen.items s.waiting.items new.waiting.items c.requires.node c.requires.whole c.in_ok-add.ensures

pub bounds-rows-next : goal.bounds-rows-next
bounds-rows-next c =
    let flood = subst (IsFlood c.args.rows.now c.args.node c.args.self.now.seen.items c.loop-next.self.seen.items) c.in-Some.ensures.items c.loop-next.invariant in
    flood.within c.in-Some.next (Contains-push c.pop.new.self.items c.in-Some.next)

pub add_row-requires : goal.add_row-requires
add_row-requires c =
    let rows = c.args.rows.now in
    let flood = subst (IsFlood rows c.args.node c.args.self.now.seen.items c.loop-next.self.seen.items) c.in-Some.ensures.items c.loop-next.invariant in
    let below : c.in-Some.next < length rows = flood.within c.in-Some.next (Contains-push c.pop.new.self.items c.in-Some.next) in
    row_within rows c.in-Some.next (length c.loop-next.self.seen.items) c.as_slice.result.now c.requires.graph c.loop-next.invariant.count
    (c.as_slice.ensures ∙ get_or_read rows c.in-Some.next c.index-rows-next.result below c.index-rows-next.is [])

pub loop-next-preserved : goal.loop-next-preserved
loop-next-preserved c =
    let rows = c.args.rows.now in
    let old = c.args.self.now.seen.items in
    let was = c.loop-next.self in
    let new = c.add_row.new.self in
    let front = c.pop.new.self.items in
    let next = c.in-Some.next in
    let flood = subst (IsFlood rows c.args.node old was.seen.items) c.in-Some.ensures.items c.loop-next.invariant in
    let below : next < length rows = flood.within next (Contains-push front next) in
    let same : c.as_slice.result.now ≡ row rows next = c.as_slice.ensures ∙ get_or_read rows next c.index-rows-next.result below c.index-rows-next.is [] in
    flood_more rows c.args.node old was.seen.items new.seen.items front new.waiting.items next c.requires.graph flood
    (subst (λ (xs : List ℕ). IsAdded xs was.seen.items front new.seen.items new.waiting.items) same c.in_ok-add_row.ensures)

pub returns-clause-whole : goal.returns-clause-whole
returns-clause-whole c =
    let rows = c.args.rows.now in
    let s = c.loop-next.self in
    let none : s.waiting.items ≡ [] = none_waits c.pop.result s.waiting.items (λ some. c.pop.ensures.variant.1 (omega (arith, s.waiting.ok.0))) c.in_default.not-Some in
    let gone : c.pop.new.self.items ≡ [] = c.pop.ensures.rest ∙ ap (λ (xs : List ℕ). take (vec_len s.waiting - 1) xs) none ∙ take_none (vec_len s.waiting - 1) in
    subst (IsWhole rows s.seen.items) (none ∙ sym gone) (flood_ends rows c.args.node c.args.self.now.seen.items s.seen.items s.waiting.items none c.loop-next.invariant).1
