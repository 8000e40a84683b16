use Rattle.std.proofs.Common.{sym, subst}
use Rattle.source_sink.specs.Lists.{IsList}
use Rattle.source_sink.proofs.Lines.{only, faultless}
use Rattle.source_sink.proofs.lists.read_lists.Goals as goal

pub returns-in-Ok-clause-only : goal.returns-in-Ok-clause-only
returns-in-Ok-clause-only c = λ others are. only c.args.bytes.now c.in-Ok.lists others (subst (IsList c.args.bytes.now) (sym c.in-Ok.ensures) c.in_ok-lines.ensures.ok) are

pub returns-in-Ok-clause-faultless : goal.returns-in-Ok-clause-faultless
returns-in-Ok-clause-faultless c = λ fault first. faultless c.args.file c.args.bytes.now c.in_ok-lines.lines.items fault c.in_ok-lines.ensures.ok first
