use Rattle.field_table.proofs.Meanings.{means_exact}
use Rattle.field_table.proofs.table.collected.Goals as goal

pub returns-in_err-declared-clause-means : goal.returns-in_err-declared-clause-means
returns-in_err-declared-clause-means c = means_exact c.args.table.now c.given.ensures.table c.given.ensures.well_formed

pub returns-in_err-named-clause-means : goal.returns-in_err-named-clause-means
returns-in_err-named-clause-means c = means_exact c.args.table.now c.given.ensures.table c.given.ensures.well_formed

pub returns-clause-means : goal.returns-clause-means
returns-clause-means c = means_exact c.args.table.now c.given.ensures.table c.given.ensures.well_formed
