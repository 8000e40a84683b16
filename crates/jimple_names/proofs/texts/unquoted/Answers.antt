use Rattle.std.proofs.Common.{rules}
use Rattle.jimple_names.proofs.Unquoted.{plain}
use Rattle.jimple_names.proofs.texts.unquoted.Goals as goal

pub returns-then-not-is_quoted : goal.returns-then-not-is_quoted
returns-then-not-is_quoted c =
    let not_quoted = c.if-not-is_quoted.true in
    let same = plain c.args.word.now (search (rules, not_quoted)) in
    rw same c.copy.ensures
