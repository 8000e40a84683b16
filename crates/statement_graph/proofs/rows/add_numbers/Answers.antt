use Rattle.std.proofs.Common.{ℕ, ◌+◌, List, map, get_or, subst}
use Rattle.std.proofs.lemmas.List.{take_all, get_or_default}
use Rattle.flat_rows.specs.Rows.{AddsToLast}
use Rattle.statement_graph.proofs.Rowed.{adds_none, adds_some, adds_mapped}
use Rattle.statement_graph.proofs.rows.add_numbers.Goals as goal

pub loop-place-init : goal.loop-place-init
loop-place-init c = adds_none c.args.rows.now c.requires.some

pub add-requires : goal.add-requires
add-requires c = adds_some c.args.rows.now c.loop-place.rows _ c.loop-place.invariant

pub loop-place-preserved : goal.loop-place-preserved
loop-place-preserved c =
    let places = c.args.places.now in
    let i = c.loop-place.place-index in
    adds_mapped (λ (t : ℕ). c.args.first + t) places i (get_or places i 0) c.args.rows.now c.loop-place.rows c.add.new.self c.loop-place-test.true (get_or_default places i 0 (get_or places i 0) c.loop-place-test.true) c.loop-place.invariant c.in_ok-add.ensures

pub returns : goal.returns
returns c = subst (λ (ps : List ℕ). AddsToLast c.args.rows.now (map (λ (t : ℕ). c.args.first + t) ps) c.loop-place.rows) (take_all c.loop-place.place-index c.args.places.now c.loop-place-test.false) c.loop-place.invariant
