use Rattle.std.proofs.Common.{◌≡◌, ◌+◌, ◌-◌, List, length, ap, subst, ◌∙◌, arith}
use Rattle.std.specs.Prelude.{Contains}
use Rattle.std.specs.List.{find}
use Rattle.field_table.specs.Chains.{upwards, declares}
use Rattle.field_table.specs.Fields.{in_class}
use Rattle.field_table.proofs.Meanings.{means_exact}
use Rattle.field_table.proofs.Upwards.{started, declares_no, goes_up, ends, at_end, means_here}
use Rattle.jimple_tree.specs.declared.tree.FieldSig.{FieldSig}
use Rattle.field_table.proofs.chain.find_declared.Goals as goal

pub loop-init : goal.loop-init
loop-init c = started c.args.table.now c.args.sig.now (length c.given.result.now + 1 - 0) (let all : length c.given.result.now ≡ length c.args.table.now = ap length c.given.ensures.same in omega (arith, all))

pub returns-in-Some-clause-means : goal.returns-in-Some-clause-means
returns-in-Some-clause-means c = means_exact c.args.table.now c.given.ensures.table c.given.ensures.well_formed c.args.sig.now

pub returns-in-Some-clause-found : goal.returns-in-Some-clause-found
returns-in-Some-clause-found c =
    means_here c.args.table.now c.args.sig.now (length c.given.result.now + 1 - c.loop.counter) c.loop.class.now c.args.declared.now c.in-Some.place c.requires (omega arith) c.loop.invariant c.in-Some.ensures

pub returns-in_default-above-clause-means : goal.returns-in_default-above-clause-means
returns-in_default-above-clause-means c = means_exact c.args.table.now c.given.ensures.table c.given.ensures.well_formed c.args.sig.now

pub returns-in_default-above-clause-found : goal.returns-in_default-above-clause-found
returns-in_default-above-clause-found c =
    let cs = c.args.table.now in
    let sig = c.args.sig.now in
    let class = c.loop.class.now in
    let fails = declares_no cs sig class (subst (λ (l : List FieldSig). Contains l (in_class sig class) → ⊥) c.requires c.in_default.ensures) in
    c.loop.invariant ∙ ends cs sig (length c.given.result.now + 1 - c.loop.counter) class fails c.in_default-above.ensures

pub loop-preserved : goal.loop-preserved
loop-preserved c =
    let cs = c.args.table.now in
    let sig = c.args.sig.now in
    let class = c.loop.class.now in
    let fails = declares_no cs sig class (subst (λ (l : List FieldSig). Contains l (in_class sig class) → ⊥) c.requires c.in_default.ensures) in
    c.loop.invariant ∙ goes_up cs sig (length c.given.result.now + 1 - c.loop.counter) (length c.given.result.now + 1 - (c.loop.counter + 1)) class c.in-Some-above.up.now (omega arith) fails c.in-Some-above.ensures

pub returns-clause-means : goal.returns-clause-means
returns-clause-means c = means_exact c.args.table.now c.given.ensures.table c.given.ensures.well_formed c.args.sig.now

pub returns-clause-found : goal.returns-clause-found
returns-clause-found c =
    let cs = c.args.table.now in
    let sig = c.args.sig.now in
    c.loop.invariant ∙ ap (λ n. find (declares cs sig) (upwards cs n c.loop.class.now)) (let none : length c.given.result.now + 1 - c.loop.counter ≡ 0 = omega arith in none) ∙ at_end cs sig c.loop.class.now
