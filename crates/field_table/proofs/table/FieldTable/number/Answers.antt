use Rattle.std.proofs.Common.{◌+◌, ap, subst, sym, ◌∙◌}
use Rattle.field_table.specs.Numbers.{own_fields, Fields, AreFields}
use Rattle.field_table.proofs.Places.{number_declared, number_named, number_none, reference_named}
use Rattle.field_table.proofs.table.FieldTable.number.Goals as goal

pub returns-in-Some-clause-number : goal.returns-in-Some-clause-number
returns-in-Some-clause-number c =
    let all : Fields = record { declared = c.self.inside.declared; named = c.self.inside.named } in
    let are : AreFields c.args.table.now all = subst (AreFields c.args.table.now) (sym c.self.view_is) c.requires in
    number_declared c.args.table.now all are c.self.invariant.distinct c.args.sig.now c.in-Some.ensures.means c.in-Some.place c.in-Some.ensures.found.1 c.field_id.result c.field_id.ensures

pub returns-in-Some-place-clause-number : goal.returns-in-Some-place-clause-number
returns-in-Some-place-clause-number c =
    let all : Fields = record { declared = c.self.inside.declared; named = c.self.inside.named } in
    let are : AreFields c.args.table.now all = subst (AreFields c.args.table.now) (sym c.self.view_is) c.requires in
    number_named c.args.table.now all are c.self.invariant.distinct c.args.sig.now c.in_default.ensures.means c.in_default.ensures.found c.in-Some-place.place c.in-Some-place.ensures c.field_id-in-Some-place.result
    (c.field_id-in-Some-place.ensures ∙ ap (λ n. own_fields + (n + c.in-Some-place.place)) c.len.ensures)

pub returns-in-None-clause-number : goal.returns-in-None-clause-number
returns-in-None-clause-number c =
    let all : Fields = record { declared = c.self.inside.declared; named = c.self.inside.named } in
    let are : AreFields c.args.table.now all = subst (AreFields c.args.table.now) (sym c.self.view_is) c.requires in
    number_none c.args.table.now all are c.self.invariant.distinct c.args.sig.now c.in_default.ensures.means c.in_default.ensures.found c.in-None.ensures

pub returns-in-None-clause-known : goal.returns-in-None-clause-known
returns-in-None-clause-known c has =
    let all : Fields = record { declared = c.self.inside.declared; named = c.self.inside.named } in
    let are : AreFields c.args.table.now all = subst (AreFields c.args.table.now) (sym c.self.view_is) c.requires in
    absurd (c.in-None.ensures (reference_named c.args.table.now all are c.self.invariant.distinct c.args.sig.now c.in_default.ensures.means c.in_default.ensures.found has))
