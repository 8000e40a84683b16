use Rattle.std.proofs.Common.{◌≡◌, ℕ, List, Some, sym, subst, ap, ◌∙◌}
use Rattle.std.specs.Prelude.{Contains}
use Rattle.std.proofs.lemmas.Option.{same_Some}
use Rattle.clean_base.specs.Lists.{At}
use Rattle.clean_base.specs.declared.ids.ClassId.{ClassId}
use Rattle.class_table.specs.Hierarchy.{class_names}
use Rattle.class_table.proofs.Linked.{one_number}
use Rattle.class_table.proofs.Readings.{not_given}
use Rattle.class_table.proofs.table.ClassTable.find.Goals as goal

pub returns-in-Some-clause-found : goal.returns-in-Some-clause-found
returns-in-Some-clause-found c k =
    let cs = c.args.self.now in
    let name = c.args.name.now in
    let n = c.in-Some.number in
    let keys : c.self.inside.names.keys ≡ class_names cs = c.self.invariant.numbered ∙ ap class_names c.self.view_is in
    let at : At (class_names cs) n name = subst (λ (l : List (List ℕ)). At l n name) keys c.in-Some.ensures in
    let number : ClassId = record { 0 = n } in (
      (λ e. subst (λ (i : ClassId). At (class_names cs) i.0 name) (same_Some number k e) at),
      (λ other. ap (λ (i : ℕ). let r : ClassId = record { 0 = i } in Some r) (one_number cs n k.0 name at other)),
    )

pub returns-in-None-clause-given : goal.returns-in-None-clause-given
returns-in-None-clause-given c =
    let cs = c.args.self.now in
    let keys : c.self.inside.names.keys ≡ class_names cs = c.self.invariant.numbered ∙ ap class_names c.self.view_is in
    not_given cs c.args.name.now (λ has. c.in-None.ensures (subst (λ (l : List (List ℕ)). Contains l c.args.name.now) (sym keys) has))
