use Rattle.std.proofs.Common.{rules, ◌≡◌}
use Rattle.access_path.specs.declared.fact.Base.TheVariants as bases
use Rattle.flow_rules.specs.Locals.{Becomes}
use Rattle.flow_rules.proofs.Lifted.{only_where}
use Rattle.alias_flow.proofs.backward.comes_from.Goals as goal

pub returns-in-Store : goal.returns-in-Store
returns-in-Store c = rw c.in-Store.is c.stored.ensures

pub returns-in-StaticStore : goal.returns-in-StaticStore
returns-in-StaticStore c =
    let at : c.args.t.now.base ≡ bases.Static c.in-StaticStore.field = search rules in
    rw c.in-StaticStore.is (only_where _ (Becomes c.in-StaticStore.from c.args.t.now) _ at c.becomes.ensures)

pub returns-in-Return : goal.returns-in-Return
returns-in-Return c =
    let at : c.args.t.now.base ≡ bases.Return = search rules in
    rw c.in-Return.is (only_where _ (Becomes c.in-Return.value c.args.t.now) _ at c.becomes-in-Return.ensures)

pub returns-in-Throw : goal.returns-in-Throw
returns-in-Throw c =
    let at : c.args.t.now.base ≡ bases.Thrown = search rules in
    rw c.in-Throw.is (only_where _ (Becomes c.in-Throw.value c.args.t.now) _ at c.becomes-in-Throw.ensures)
