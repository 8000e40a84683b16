use Rattle.std.proofs.Common.{◌≡◌, true, false, ℕ, List, sym, ◌∙◌, subst}
use Rattle.std.proofs.lemmas.Result.{err_from_is_err_and}
use Rattle.source_sink.specs.ReadingLists.{RefusesLine}
use Rattle.source_sink.proofs.Lines.{refuses}
use Rattle.source_sink.proofs.lists.take_line.Goals as goal

pub returns-in_err-read_line-clause-refused : goal.returns-in_err-read_line-clause-refused
returns-in_err-read_line-clause-refused c =
    let p = err_from_is_err_and c.from_residual.result c.from_residual.ensures.1 in
    let miss = c.in_err-read_line.field-0.0 in
    let something = λ (passed : _).
    let over : true ≡ false = sym (c.is_passed_over.ensures.1 passed) ∙ c.if-is_passed_over.false in
    let bad : ⊥ = cc in bad in
    rw (p.1, p.2) (subst (λ (text : List ℕ). RefusesLine text miss) c.trimmed-text.ensures (refuses miss c.trimmed-text.result.now something c.in_err-read_line.ensures.err))
