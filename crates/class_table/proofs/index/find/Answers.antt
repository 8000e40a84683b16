use Rattle.std.proofs.Common.{◌≡◌, ◌<◌, List, length, get_or, map, refl, sym, subst, ◌∙◌, arith, true≢false}
use Rattle.std.proofs.lemmas.List.Elements.{Contains-get_or}
use Rattle.clean_base.specs.Lists.{At}
use Rattle.jimple_tree.specs.declared.tree.Method.{Method}
use Rattle.name_index.proofs.Named.{place_within}
use Rattle.class_table.specs.Index.{name_of}
use Rattle.class_table.proofs.Signed.{found, none_more, none_yet, not_found}
use Rattle.class_table.proofs.index.find.Goals as goal

pub loop-place-init : goal.loop-place-init
loop-place-init c = none_yet c.args.class.now c.args.sig.now

pub bounds-methods-place : goal.bounds-methods-place
bounds-methods-place c =
    let methods = c.args.class.now.methods in
    let places = c.places-place-items.result.now in
    let k = get_or places c.loop-place.place-index 0 in
    let exact = c.places-place-items.ensures.exact (map name_of methods) c.requires.index k in
    let within = place_within name_of methods k c.args.sig.now.name (exact.0 (Contains-get_or places c.loop-place.place-index 0 c.loop-place-test.true)) in
    subst (λ (ms : List Method). k < length ms) (sym c.as_slice-methods.ensures) within

pub offset_bounds-methods-place : goal.offset_bounds-methods-place
offset_bounds-methods-place c =
    let methods = c.args.class.now.methods in
    let places = c.places-place-items.result.now in
    let k = get_or places c.loop-place.place-index 0 in
    let exact = c.places-place-items.ensures.exact (map name_of methods) c.requires.index k in
    let within = place_within name_of methods k c.args.sig.now.name (exact.0 (Contains-get_or places c.loop-place.place-index 0 c.loop-place-test.true)) in
    let below : k < length c.as_slice-methods.result.now = subst (λ (ms : List Method). k < length ms) (sym c.as_slice-methods.ensures) within in
    let room = c.as_slice-methods.type_inv.1 in
    omega (arith, below, room)

pub returns-then-is_named : goal.returns-then-is_named
returns-then-is_named c =
    let methods = c.args.class.now.methods in
    let places = c.places-place-items.result.now in
    let k = get_or places c.loop-place.place-index 0 in
    let method = c.index-methods-place.result in
    let exact = c.places-place-items.ensures.exact (map name_of methods) c.requires.index k in
    let within = place_within name_of methods k c.args.sig.now.name (exact.0 (Contains-get_or places c.loop-place.place-index 0 c.loop-place-test.true)) in
    let at : At methods k method = (within, subst (λ (ms : List Method). get_or ms k method ≡ method) c.as_slice-methods.ensures (sym c.index-methods-place.is)) in
    found c.args.class.now c.args.sig.now c.requires.formed k method (at, c.is_named.ensures.0 c.if-is_named.true)

pub loop-place-preserved : goal.loop-place-preserved
loop-place-preserved c =
    let methods = c.args.class.now.methods in
    let places = c.places-place-items.result.now in
    let k = get_or places c.loop-place.place-index 0 in
    let method = c.index-methods-place.result in
    let exact = c.places-place-items.ensures.exact (map name_of methods) c.requires.index k in
    let within = place_within name_of methods k c.args.sig.now.name (exact.0 (Contains-get_or places c.loop-place.place-index 0 c.loop-place-test.true)) in
    let at : At methods k method = (within, subst (λ (ms : List Method). get_or ms k method ≡ method) c.as_slice-methods.ensures (sym c.index-methods-place.is)) in
    none_more c.args.class.now c.args.sig.now places c.loop-place.place-index k method c.loop-place-test.true refl at (λ same. true≢false (sym (c.is_named.ensures.1 same) ∙ c.if-is_named.false)) c.loop-place.invariant

pub returns : goal.returns
returns c =
    not_found c.args.class.now c.args.sig.now c.places-place-items.result.now c.loop-place.place-index c.loop-place-test.false
    (c.places-place-items.ensures.exact (map name_of c.args.class.now.methods) c.requires.index) c.loop-place.invariant _ refl
