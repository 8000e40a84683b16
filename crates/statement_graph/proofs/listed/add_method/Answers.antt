use Rattle.std.proofs.Common.{Result, Ok, Err, arith}
use Rattle.std.specs.Prelude.{OnOk}
use Rattle.statement_graph.proofs.Listing.{listed_more}
use Rattle.statement_graph.proofs.Standing.{body_fits, method_within, none_bodiless}
use Rattle.statement_graph.proofs.listed.add_method.Goals as goal

pub add_body-requires-clause-fits : goal.add_body-requires-clause-fits
add_body-requires-clause-fits c =
    let (class, at) = c.method-method.ensures in
    body_fits c.args.table.now c.args.number class c.method-method.result.now c.in-Some.body c.given-classes.ensures.well_formed at c.in-Some.is

pub add_body-requires-clause-few : goal.add_body-requires-clause-few
add_body-requires-clause-few c =
    let (class, at) = c.method-method.ensures in
    let within = method_within c.args.table.now c.args.number class c.method-method.result.now c.in-Some.body at c.in-Some.is in
    let many = c.requires.listed.owned in
    let few = c.given-classes.ensures.table.stmts in
    omega (arith, within, many, few)

all_three : {T E A B C P : Type 0} (r : Result T E) → (A → B → C → P) → OnOk r A → OnOk r B → OnOk r C → OnOk r P
all_three (Ok x) f a b c = f a b c
all_three (Err e) f a b c = tt

pub returns-in-Some : goal.returns-in-Some
returns-in-Some c =
    let cs = c.args.table.now in
    let (class, at) = c.method-method.ensures in
    let old = c.args.listed.now in
    let new = c.add_body.new.listed in
    all_three c.add_body.result (listed_more cs c.args.number old.firsts.items old.owners.items old.rows c.requires.listed class c.method-method.result.now c.in-Some.body at c.in-Some.is new.firsts.items new.owners.items new.rows)
    c.add_body.ensures.firsts c.add_body.ensures.owners c.add_body.ensures.rows

pub returns-in-None : goal.returns-in-None
returns-in-None c =
    let (class, at) = c.method-method.ensures in
    absurd (none_bodiless c.args.table.now c.args.number class c.method-method.result.now at c.in-None.is)
