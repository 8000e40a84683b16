use Rattle.std.proofs.Common.{ℕ, List, subst, sym}
use Rattle.std.specs.Prelude.{◌↔◌, Contains}
use Rattle.std.specs.List.Sorted.{IsStrictlyIncreasing}
use Rattle.clean_base.specs.Lists.{At}
use Rattle.name_index.proofs.index.NameIndex.places.Goals as goal

pub returns-clause-exact : goal.returns-clause-exact
returns-clause-exact c = λ names is place. subst (λ (places : List ℕ). Contains places place ↔ At names place c.args.name.now) (sym c.kept.ensures) (is.exact c.args.name.now place)

pub returns-clause-ascending : goal.returns-clause-ascending
returns-clause-ascending c = λ names is. subst IsStrictlyIncreasing (sym c.kept.ensures) (is.ascending c.args.name.now)
