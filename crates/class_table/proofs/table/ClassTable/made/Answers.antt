use Rattle.std.proofs.Common.{◌≡◌, ◌≤◌, List, length, subst, sym, refl}
use Rattle.jimple_tree.specs.declared.tree.Class.{Class}
use Rattle.clean_base.specs.Limits.{most_methods, most_stmts}
use Rattle.class_table.specs.Faults.{IsTable, HasFewNames, HaveNames, IsAcyclic, methods, stmts}
use Rattle.class_table.specs.Hierarchy.{class_names}
use Rattle.class_table.specs.Kept.{HasLinks}
use Rattle.class_table.specs.Members.{AreMembers}
use Rattle.class_table.specs.Methods.{all_methods, stmts_in}
use Rattle.class_table.proofs.Readings.{too_many}
use Rattle.class_table.proofs.table.ClassTable.made.Goals as goal
use Rattle.class_table.proofs.table.ClassTable.made.Goals.{In-Ok}

pub returns-then-not-has_few_methods-clause-err : goal.returns-then-not-has_few_methods-clause-err
returns-then-not-has_few_methods-clause-err c =
    let cs = c.args.classes.items in
    let few : HasFewNames cs = subst (λ (ds : List Class). HasFewNames ds) c.as_slice.ensures.value c.in_ok-names.ensures.few in
    let names : HaveNames cs = subst (λ (ds : List Class). HaveNames ds) c.as_slice.ensures.value c.in_ok-names.ensures.distinct in
    let acyclic : IsAcyclic cs = subst (λ (ds : List Class). IsAcyclic ds) c.as_slice-2.ensures.value c.in_ok-links.ensures.acyclic in
    methods few names acyclic
    (too_many (length (all_methods cs)) most_methods c.has_few_methods.result (λ h. c.has_few_methods.ensures.1 (subst (λ (ds : List Class). length (all_methods ds) ≤ most_methods) (sym c.as_slice-3.ensures.value) h)) c.if-not-has_few_methods.true)

pub returns-then-not-has_few_stmts-clause-err : goal.returns-then-not-has_few_stmts-clause-err
returns-then-not-has_few_stmts-clause-err c =
    let cs = c.args.classes.items in
    let few : HasFewNames cs = subst (λ (ds : List Class). HasFewNames ds) c.as_slice.ensures.value c.in_ok-names.ensures.few in
    let names : HaveNames cs = subst (λ (ds : List Class). HaveNames ds) c.as_slice.ensures.value c.in_ok-names.ensures.distinct in
    let acyclic : IsAcyclic cs = subst (λ (ds : List Class). IsAcyclic ds) c.as_slice-2.ensures.value c.in_ok-links.ensures.acyclic in
    let within : length (all_methods cs) ≤ most_methods = subst (λ (ds : List Class). length (all_methods ds) ≤ most_methods) c.as_slice-3.ensures.value (c.has_few_methods.ensures.0 c.if-not-has_few_methods.false) in
    stmts few names acyclic within
    (too_many (length (stmts_in cs)) most_stmts c.has_few_stmts.result (λ h. c.has_few_stmts.ensures.1 (subst (λ (ds : List Class). length (stmts_in ds) ≤ most_stmts) (sym c.as_slice-4.ensures.value) h)) c.if-not-has_few_stmts.true)

table : (c : In-Ok) → IsTable c.args.classes.items
table c = record {
  few = subst (λ (ds : List Class). HasFewNames ds) c.as_slice.ensures.value c.in_ok-names.ensures.few;
  names = subst (λ (ds : List Class). HaveNames ds) c.as_slice.ensures.value c.in_ok-names.ensures.distinct;
  acyclic = subst (λ (ds : List Class). IsAcyclic ds) c.as_slice-2.ensures.value c.in_ok-links.ensures.acyclic;
  methods = subst (λ (ds : List Class). length (all_methods ds) ≤ most_methods) c.as_slice-3.ensures.value (c.has_few_methods.ensures.0 c.if-not-has_few_methods.false);
  stmts = subst (λ (ds : List Class). length (stmts_in ds) ≤ most_stmts) c.as_slice-4.ensures.value (c.has_few_stmts.ensures.0 c.if-not-has_few_stmts.false);
}

pub invariant_of-result : goal.invariant_of-result
invariant_of-result c = record {
  table = table c;
  well_formed = c.requires;
  numbered = subst (λ (ds : List Class). c.in_ok-names.names.keys ≡ class_names ds) c.as_slice.ensures.value c.in_ok-names.ensures.keys;
  linked = subst (λ (ds : List Class). HasLinks ds c.in_ok-links.links) c.as_slice-2.ensures.value c.in_ok-links.ensures.links;
  listed = subst (λ (ds : List Class). AreMembers ds c.in-Ok.members) c.as_slice-5.ensures.value c.in-Ok.ensures;
}

pub returns-clause-ok : goal.returns-clause-ok
returns-clause-ok c = (refl, table c)
