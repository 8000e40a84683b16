use Rattle.std.proofs.Common.{◌≡◌, ◌+◌, ◌∙◌, length, arith, length-append}
use Rattle.std.proofs.lemmas.List.Elements.{All-push}
use Rattle.clean_top.proofs.Among.{read_among, room_less}
use Rattle.clean_top.specs.Reading.{IsOf}
use Rattle.clean_top.proofs.ReadSo.{all_read, one_read, one_stops}
use Rattle.clean_top.proofs.read.read_texts.Goals as goal

pub returns-in-Err-clause-read : goal.returns-in-Err-clause-read
returns-in-Err-clause-read g c =
    let l = c.loop-name in
    rw c.of_read.ensures
    (one_stops (g.S.Shelf.holds c.args.shelf.now) c.args.names.now c.args.first c.args.room l.left l.file l.name-index l.texts.items l.invariant.leaves c.name-item.result c.loop-name-test.true c.name-item.is
    c.in-Err.stop _ _ _ _ (l.invariant.same _) (l.invariant.later _) l.invariant.numbered (rw (c.as_str.ensures, c.bytes.ensures) at c.in-Err.ensures.cause))

pub returns-in-Err-clause-among : goal.returns-in-Err-clause-among
returns-in-Err-clause-among g c =
    let l = c.loop-name in
    rw c.of_read.ensures (read_among _ l.file c.in-Err.stop (omega (arith, l.invariant.numbered, c.loop-name-test.true)))

pub loop-name-preserved : goal.loop-name-preserved
loop-name-preserved g c =
    let l = c.loop-name in
    let bytes_len : c.in-Ok.bytes.len ≡ length c.in-Ok.bytes.items = c.in-Ok.bytes.ok.0 in
    record {
      numbered = omega arith;
      count = rw c.in-Ok-push.ensures.items (omega (arith, length-append l.texts.items, l.invariant.count));
      room = rw c.after-left.ensures (omega (arith, room_less l.left c.len.result, l.invariant.room));
      of = rw (c.in-Ok-push.ensures.items, c.from_vec.ensures)
          (All-push (IsOf (c.args.first + length c.args.names.now)) _ _ l.invariant.of (record {
            below = omega (arith, l.invariant.numbered, c.loop-name-test.true);
            short = omega (arith, bytes_len, rw c.bytes.ensures at c.in-Ok.ensures.within, l.invariant.room, c.requires.room);
          }));
      same = λ other. c.in-Ok.ensures.same other ∙ l.invariant.same other;
      later = λ other. omega (arith, c.in-Ok.ensures.later other, l.invariant.later other);
      leaves = λ files tells.
          rw (c.in-Ok-push.ensures.items, c.from_vec.ensures, c.after-left.ensures, c.len.ensures, bytes_len)
          (one_read (g.S.Shelf.holds c.args.shelf.now) c.args.names.now c.args.first c.args.room l.left l.file l.name-index l.texts.items l.invariant.leaves c.name-item.result c.loop-name-test.true c.name-item.is
          c.in-Ok.bytes.items _ (l.invariant.same _) (rw c.as_str.ensures at c.in-Ok.ensures.whole) (rw (c.bytes.ensures, bytes_len) at c.in-Ok.ensures.within) files tells);
    }

pub returns-clause-read : goal.returns-clause-read
returns-clause-read g c =
    let l = c.loop-name in
    rw c.from_vec-2.ensures (record { so = all_read (g.S.Shelf.holds c.args.shelf.now) c.args.names.now c.args.first c.args.room l.left l.file l.name-index l.texts.items l.invariant.leaves c.loop-name-test.false })
