use Rattle.std.proofs.Common.{arith}
use Rattle.std.proofs.lemmas.List.{length-append}
use Rattle.std.proofs.lemmas.Result.{err_from_is_err_and}
use Rattle.clean_top.proofs.Among.{halt_more, texts_more}
use Rattle.clean_top.proofs.ReadSo.{classes_halt, lists_halt, all_texts}
use Rattle.clean_top.proofs.read.read_named.Goals as goal

pub returns-in_err-classes-clause-read : goal.returns-in_err-classes-clause-read
returns-in_err-classes-clause-read g c =
    let p = err_from_is_err_and c.from_residual.result c.from_residual.ensures.1 in
    rw (p.1, p.2) (classes_halt _ _ _ c.args.names.now c.in_err-classes.field-0.0 (rw c.as_slice-first.ensures at c.in_err-classes.ensures.read))

pub returns-in_err-lists-clause-read : goal.returns-in_err-lists-clause-read
returns-in_err-lists-clause-read g c =
    let p = err_from_is_err_and c.from_residual-in_err-lists.result c.from_residual-in_err-lists.ensures.1 in
    rw (p.1, p.2)
    (lists_halt _ _ _ c.args.names.now c.in_ok-classes.classes (let read = rw c.as_slice-first.ensures at c.in_ok-classes.ensures.read in read.so) (g.S.Shelf.holds c.read_texts.new.shelf) c.in_ok-classes.ensures.same
    (g.S.Shelf.faults c.read_texts.new.shelf) c.in_ok-classes.ensures.later c.in_err-lists.field-0.0 (rw (c.as_slice-others.ensures, c.as_slice-first.ensures) at c.in_err-lists.ensures.read))

pub returns-clause-read : goal.returns-clause-read
returns-clause-read g c =
    record {
      so = all_texts _ (g.S.Shelf.faults c.args.shelf.now) (g.S.Shelf.faults c.args.shelf.now) c.args.names.now c.in_ok-classes.classes (let read = rw c.as_slice-first.ensures at c.in_ok-classes.ensures.read in read.so) (g.S.Shelf.holds c.read_texts.new.shelf) c.in_ok-classes.ensures.same
          c.in_ok-lists.lists (let read = rw (c.as_slice-others.ensures, c.as_slice-first.ensures) at c.in_ok-lists.ensures.read in read.so);
    }

pub returns-in_err-classes-clause-among : goal.returns-in_err-classes-clause-among
returns-in_err-classes-clause-among g c =
    let p = err_from_is_err_and c.from_residual.result c.from_residual.ensures.1 in
    let names = c.args.names.now in
    rw (p.1, p.2) (halt_more _ _ (omega (arith, length-append names.classes names.lists)) c.in_err-classes.field-0.0 (rw c.as_slice-first.ensures at c.in_err-classes.ensures.among))

pub returns-in_err-lists-clause-among : goal.returns-in_err-lists-clause-among
returns-in_err-lists-clause-among g c =
    let p = err_from_is_err_and c.from_residual-in_err-lists.result c.from_residual-in_err-lists.ensures.1 in
    let names = c.args.names.now in
    rw (p.1, p.2) (halt_more _ _ (omega (arith, length-append names.classes names.lists)) c.in_err-lists.field-0.0 (rw (c.as_slice-others.ensures, c.as_slice-first.ensures) at c.in_err-lists.ensures.among))

pub returns-clause-of : goal.returns-clause-of
returns-clause-of g c =
    let names = c.args.names.now in
    record {
      classes = texts_more _ _ (omega (arith, length-append names.classes names.lists)) _ (rw c.as_slice-first.ensures at c.in_ok-classes.ensures.of);
      lists = texts_more _ _ (omega (arith, length-append names.classes names.lists)) _ (rw (c.as_slice-others.ensures, c.as_slice-first.ensures) at c.in_ok-lists.ensures.of);
    }
