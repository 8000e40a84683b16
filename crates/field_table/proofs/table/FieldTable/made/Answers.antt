use Rattle.std.proofs.Common.{◌≡◌, ◌+◌, List, length, ap, subst, arith}
use Rattle.std.proofs.lemmas.List.{length-append}
use Rattle.clean_base.specs.Limits.{most_fields}
use Rattle.class_table.proofs.Readings.{too_many}
use Rattle.field_table.specs.Numbers.{named_sigs, own_fields, fields}
use Rattle.clean_base.specs.Lists.{IsDistinct}
use Rattle.jimple_tree.specs.declared.tree.FieldSig.{FieldSig}
use Rattle.field_table.specs.Fields.{declared_sigs}
use Rattle.field_table.proofs.Places.{one_number}
use Rattle.field_table.proofs.table.FieldTable.made.Goals as goal

pub returns-then-not-has_few-clause-err : goal.returns-then-not-has_few-clause-err
returns-then-not-has_few-clause-err c =
    let cs = c.args.table.now in
    let own = c.in-Ok.sigs.0 in
    let named = c.in-Ok.sigs.1 in
    let more = too_many (own_fields + (length own + length named)) most_fields c.has_few.result c.has_few.ensures.1 c.if-not-has_few.true in
    let one : length own ≡ length (declared_sigs cs) = ap length c.in-Ok.ensures.declared in
    let two : length named ≡ length (named_sigs cs) = ap length c.in-Ok.ensures.named in
    let all = length-append (declared_sigs cs) (named_sigs cs) in
    fields (omega (arith, more, one, two, all))

pub returns-clause-one : goal.returns-clause-one
returns-clause-one c =
    let ensures = c.in-Ok.ensures in
    one_number c.args.table.now (subst (λ (sigs : List FieldSig). IsDistinct sigs) ensures.declared ensures.distinct) ensures.means
