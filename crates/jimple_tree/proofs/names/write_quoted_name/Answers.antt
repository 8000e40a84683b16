use Rattle.std.proofs.Common.{◌++◌, ◌∙◌, sym, ap}
use Rattle.jimple_tree.proofs.Segments.{name_at_dot, name_without_dot, wrote_part}
use Rattle.jimple_tree.proofs.names.write_quoted_name.Goals as goal

pub loop-dot-preserved : goal.loop-dot-preserved
loop-dot-preserved c =
    let e = name_at_dot c.loop-dot.rest.now c.in-Some.dot (sym c.first_dot.ensures ∙ c.in-Some.is) in
    wrote_part _ _ _ _ _ _ c.in_ok-write_segment.ensures c.in_ok-extend_from_slice.ensures.items
    (sym (ap (λ t. c.loop-dot.out.items ++ t) e) ∙ c.loop-dot.invariant)

pub returns : goal.returns
returns c =
    let e = name_without_dot c.loop-dot.rest.now (sym c.first_dot.ensures ∙ c.in_default.is) in
    rw (← c.loop-dot.invariant, e) c.write_segment-2.ensures
