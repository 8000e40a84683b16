use Rattle.std.proofs.Common.{sym, ◌∙◌}
use Rattle.std.proofs.lemmas.Result.{err_from_is_err_and}
use Rattle.jimple_grammar.proofs.WholeFile.{file_read, file_behind, file_stopped}
use Rattle.jimple_grammar.proofs.read.read_file.Goals as goal

pub returns-in_err-found : goal.returns-in_err-found
returns-in_err-found c =
    let p = err_from_is_err_and c.from_residual.result c.from_residual.ensures.1 in
    rw (p.1, p.2) (file_stopped c.args.tokens.now c.new-cursor.result.left.now c.in_err-found.field-0.0 c.new-cursor.ensures c.in_err-found.ensures)

pub returns-then-is_at_end : goal.returns-then-is_at_end
returns-then-is_at_end c = rw c.from_vec.ensures (file_read c.args.tokens.now c.new-cursor.result.left.now c.file.new.self.left.now c.in_ok-found.found.items c.new-cursor.ensures c.in_ok-found.ensures (sym c.is_at_end.ensures ∙ c.if-is_at_end.true))

pub returns-else-is_at_end : goal.returns-else-is_at_end
returns-else-is_at_end c = file_behind c.args.tokens.now c.new-cursor.result.left.now c.file.new.self.left.now c.in_ok-found.found.items c.remaining.result c.new-cursor.ensures c.in_ok-found.ensures (sym c.is_at_end.ensures ∙ c.if-is_at_end.false) c.remaining.ensures
