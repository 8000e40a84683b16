use Rattle.std.proofs.Common.{◌≡◌, ℕ, List, Some, ap, sym, ◌∙◌, subst}
use Rattle.std.proofs.lemmas.Result.{err_from_is_err_and}
use Rattle.source_sink.specs.Lists.{IsMarked}
use Rattle.source_sink.specs.Reading.{Misses, read_sig}
use Rattle.source_sink.proofs.Lines.{gives, missed, unmarked}
use Rattle.source_sink.proofs.entry.read_line.Goals as goal

pub returns-in_err-sig-clause-err : goal.returns-in_err-sig-clause-err
returns-in_err-sig-clause-err c =
    let p = err_from_is_err_and c.from_residual.result c.from_residual.ensures.1 in
    let miss = c.in_err-sig.field-0.0 in
    rw (p.1, p.2) (missed miss c.args.line.now (subst (λ (text : List ℕ). Misses miss (read_sig text)) c.new-cursor.ensures c.in_err-sig.ensures))

pub returns-in-Some-clause-ok : goal.returns-in-Some-clause-ok
returns-in-Some-clause-ok c =
    let left = c.take_sig.new.self.left.now in
    let kind = c.in-Some.kind in
    let e : read_sig c.args.line.now ≡ Some (c.in_ok-sig.sig, left) = ap read_sig (sym c.new-cursor.ensures) ∙ c.in_ok-sig.ensures in
    gives c.args.line.now c.in_ok-sig.sig left kind.source kind.sink e (subst (IsMarked kind.source kind.sink) c.left.ensures c.in-Some.ensures.some)

pub returns-in-None-clause-err : goal.returns-in-None-clause-err
returns-in-None-clause-err c =
    let left = c.take_sig.new.self.left.now in
    let e : read_sig c.args.line.now ≡ Some (c.in_ok-sig.sig, left) = ap read_sig (sym c.new-cursor.ensures) ∙ c.in_ok-sig.ensures in
    unmarked c.args.line.now c.in_ok-sig.sig left e (λ source sink marked. c.in-None.ensures.none source sink (subst (IsMarked source sink) (sym c.left.ensures) marked))
