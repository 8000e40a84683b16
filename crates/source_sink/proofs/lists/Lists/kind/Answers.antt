use Rattle.std.proofs.Common.{◌↔◌, ◌<◌, ◌+◌, List, Bool, IsTrue, length, get_or, map, take, refl, sym, subst, arith}
use Rattle.std.proofs.lemmas.List.Elements.{Contains-get_or}
use Rattle.name_index.proofs.Named.{place_within}
use Rattle.source_sink.specs.declared.line.Line.{Line}
use Rattle.source_sink.specs.Lists.{Says}
use Rattle.source_sink.specs.ReadingLists.{name_of, SaysAt}
use Rattle.source_sink.proofs.Named.{all_said, asked, says_more}
use Rattle.source_sink.proofs.lists.Lists.kind.Goals as goal

pub bounds-lines-number : goal.bounds-lines-number
bounds-lines-number c =
    let items = c.self.inside.lines.items in
    let k = get_or c.places-number-items.result.now c.loop-number.number-index 0 in
    let exact = c.places-number-items.ensures.exact (map name_of items) c.self.invariant k in
    let within = place_within name_of items k c.args.sig.now.name (exact.0 (Contains-get_or c.places-number-items.result.now c.loop-number.number-index 0 c.loop-number-test.true)) in
    subst (λ (ls : List Line). k < length ls) (sym c.as_slice-lines.ensures.value) within

pub offset_bounds-lines-number : goal.offset_bounds-lines-number
offset_bounds-lines-number c =
    let items = c.self.inside.lines.items in
    let k = get_or c.places-number-items.result.now c.loop-number.number-index 0 in
    let exact = c.places-number-items.ensures.exact (map name_of items) c.self.invariant k in
    let within = place_within name_of items k c.args.sig.now.name (exact.0 (Contains-get_or c.places-number-items.result.now c.loop-number.number-index 0 c.loop-number-test.true)) in
    let below : k < length c.as_slice-lines.result.now = subst (λ (ls : List Line). k < length ls) (sym c.as_slice-lines.ensures.value) within in
    let room = c.as_slice-lines.type_inv.1 in
    omega (arith, below, room)

pub loop-number-preserved : goal.loop-number-preserved
loop-number-preserved c =
    let lines = c.as_slice-lines.result.now in
    let items = c.self.inside.lines.items in
    let places = c.places-number-items.result.now in
    let i = c.loop-number.number-index in
    let k = get_or places i 0 in
    let class = c.args.class.now in
    let sig = c.args.sig.now in
    let line = c.index-lines-number.result in
    let exact = c.places-number-items.ensures.exact (map name_of items) c.self.invariant k in
    let within = place_within name_of items k sig.name (exact.0 (Contains-get_or places i 0 c.loop-number-test.true)) in
    let below : k < length lines = subst (λ (ls : List Line). k < length ls) (sym c.as_slice-lines.ensures.value) within in
    record {
      source = subst (λ (b : Bool). IsTrue b ↔ SaysAt lines (take (i + 1) places) (asked class sig) (λ (l : Line). l.source)) (sym c.with_line-kind.ensures.source)
          (says_more lines class sig (λ (l : Line). l.source) places i k line c.loop-number.kind.source c.loop-number-test.true refl (below, sym c.index-lines-number.is) c.loop-number.invariant.source);
      sink = subst (λ (b : Bool). IsTrue b ↔ SaysAt lines (take (i + 1) places) (asked class sig) (λ (l : Line). l.sink)) (sym c.with_line-kind.ensures.sink)
          (says_more lines class sig (λ (l : Line). l.sink) places i k line c.loop-number.kind.sink c.loop-number-test.true refl (below, sym c.index-lines-number.is) c.loop-number.invariant.sink);
    }

pub returns-clause-source : goal.returns-clause-source
returns-clause-source c = subst (λ (ls : List Line). IsTrue c.loop-number.kind.source ↔ Says ls (asked c.args.class.now c.args.sig.now) (λ (l : Line). l.source)) c.self.view_is (all_said c.self.inside.lines.items (asked c.args.class.now c.args.sig.now) (λ (l : Line). l.source) c.places-number-items.result.now c.loop-number.number-index c.loop-number.kind.source c.loop-number-test.false
    (c.places-number-items.ensures.exact (map name_of c.self.inside.lines.items) c.self.invariant)
    (subst (λ (ls : List Line). IsTrue c.loop-number.kind.source ↔ SaysAt ls (take c.loop-number.number-index c.places-number-items.result.now) (asked c.args.class.now c.args.sig.now) (λ (l : Line). l.source)) c.as_slice-lines.ensures.value c.loop-number.invariant.source))

pub returns-clause-sink : goal.returns-clause-sink
returns-clause-sink c = subst (λ (ls : List Line). IsTrue c.loop-number.kind.sink ↔ Says ls (asked c.args.class.now c.args.sig.now) (λ (l : Line). l.sink)) c.self.view_is (all_said c.self.inside.lines.items (asked c.args.class.now c.args.sig.now) (λ (l : Line). l.sink) c.places-number-items.result.now c.loop-number.number-index c.loop-number.kind.sink c.loop-number-test.false
    (c.places-number-items.ensures.exact (map name_of c.self.inside.lines.items) c.self.invariant)
    (subst (λ (ls : List Line). IsTrue c.loop-number.kind.sink ↔ SaysAt ls (take c.loop-number.number-index c.places-number-items.result.now) (asked c.args.class.now c.args.sig.now) (λ (l : Line). l.sink)) c.as_slice-lines.ensures.value c.loop-number.invariant.sink))
