use Rattle.std.proofs.Common.{suc, length, flat_map, ap, arith, List, ◌∙◌}
use Rattle.jimple_grammar.specs.declared.raw.RawItem.{RawItem}
use Rattle.jimple_names.specs.Scope.{stmts_of}
use Rattle.jimple_names.specs.Tree.{locals_of}
use Rattle.jimple_names.proofs.OfBodies.{scope_is, labels_are}
use Rattle.jimple_names.proofs.Walks.{few_given}
use Rattle.jimple_names.proofs.bodies.body.Goals as goal

pub later_labels-requires : goal.later_labels-requires
later_labels-requires c =
    let few = few_given c.args.bytes.now c.args.raw.now.code (c.requires.0, c.requires.1, c.requires.2.code) in
    let same = ap length c.as_slice-3.ensures in
    omega (arith, few, same)

pub inside-requires-clause-seen : goal.inside-requires-clause-seen
inside-requires-clause-seen c =
    let bytes = c.args.bytes.now in
    scope_is bytes c.args.raw.now c.as_slice-4.result.now c.as_slice-5.result.now c.in_ok-count.count (c.as_slice-4.ensures.value ∙ c.in_ok-locals.ensures ∙ ap (flat_map (locals_of bytes)) c.as_slice.ensures)
    (labels_are bytes c.args.raw.now c.as_slice-5.result.now c.in_ok-labels.labels.items c.as_slice-2.result.now c.as_slice-3.result.now (c.as_slice-5.ensures.value ∙ c.in_ok-count.ensures.labels) c.in_ok-labels.ensures c.as_slice-2.ensures c.as_slice-3.ensures)
    (c.in_ok-count.ensures.count ∙ ap (λ (rs : List RawItem). suc (length (stmts_of rs))) c.as_slice-3.ensures)
