use Rattle.std.proofs.Common.{◌≡◌, true≢false, sym, ◌∙◌, refl, subst}
use Rattle.std.proofs.lemmas.Option.{same_Some}
use Rattle.jimple_tree.specs.declared.tree.FieldSig.{FieldSig}
use Rattle.field_table.specs.Numbers.{IsFieldNumber}
use Rattle.statement_views.proofs.Seeing.{ref_in}
use Rattle.statement_views.proofs.seen.field_of.Goals as goal

pub unreachable-requires : goal.unreachable-requires
unreachable-requires c = true≢false (sym (c.in-None.ensures.known (ref_in c.args.table.now c.args.stmt.now c.in-Some.sig.now c.requires.stands c.in-Some.ensures.some)))

pub returns : goal.returns
returns c = λ sig is.
    let one : c.in-Some.sig.now ≡ sig = same_Some c.in-Some.sig.now sig (sym c.in-Some.ensures.some ∙ is) in
    subst (λ (s : FieldSig). IsFieldNumber c.args.table.now s c.in-Some-number.field) one ((c.in-Some-number.ensures.number c.in-Some-number.field).0 refl)
