use Rattle.std.proofs.Common.{◌≡◌, ◌+◌, None, length, get_or, ap, ◌∙◌, arith}
use Rattle.std.proofs.lemmas.List.{length_push}
use Rattle.clean_base.specs.Lists.{At}
use Rattle.class_table.proofs.Along.{item_read}
use Rattle.class_table.proofs.Searched.{answers_exact, answers_found, answers_more, found_place}
use Rattle.class_table.proofs.resolve.resolved.Goals as goal

pub number_at-requires : goal.number_at-requires
number_at-requires c =
    let read = c.as_slice-place-items.result.now in
    let places = c.in_ok-places.places.items in
    let i = c.loop-place.place-index in
    let r = get_or read i None in
    found_place c.args.classes.now c.requires.formed c.requires.table.names c.args.members.now c.requires.members c.args.sig.now i r
    (c.in_ok-places.ensures.each i r (item_read places read i c.as_slice-place-items.ensures.value c.loop-place-test.true))

pub loop-place-preserved : goal.loop-place-preserved
loop-place-preserved c =
    let cs = c.args.classes.now in
    let read = c.as_slice-place-items.result.now in
    let places = c.in_ok-places.places.items in
    let i = c.loop-place.place-index in
    let test = c.loop-place-test.true in
    let r = get_or read i None in
    let at : At places i r = item_read places read i c.as_slice-place-items.ensures.value test in
    let old = c.loop-place.methods.items in
    let new = c.push.new.self.items in
    let out = c.number_at.result in
    let was = c.loop-place.invariant.count in
    let one : length new ≡ length old + 1 = ap length c.in_ok-push.ensures.items ∙ length_push old out in
    let inside = at.0 in
    let count = c.in_ok-places.ensures.count in
    record {
      count = omega (arith, one, was);
      answers = answers_more cs c.args.sig.now old new out i was c.loop-place.invariant.answers
          (answers_found cs c.requires.formed c.requires.table.names c.args.members.now c.requires.members c.args.sig.now i (omega (arith, inside, count)) r (c.in_ok-places.ensures.each i r at) out c.number_at.ensures.none
          c.number_at.ensures.some) c.in_ok-push.ensures.items;
    }

pub returns-clause-exact : goal.returns-clause-exact
returns-clause-exact c =
    let cs = c.args.classes.now in
    let was = c.loop-place.invariant.count in
    let past = c.loop-place-test.false in
    let end = c.loop-place.auto.place-index-end in
    let long : length c.as_slice-place-items.result.now ≡ length c.in_ok-places.places.items = ap length c.as_slice-place-items.ensures.value in
    let count = c.in_ok-places.ensures.count in
    answers_exact cs c.args.sig.now c.loop-place.methods.items (omega (arith, was, past, end, long, count)) c.loop-place.invariant.answers
