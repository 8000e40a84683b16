use Rattle.std.proofs.Common.{arith, ◌≡◌, ◌++◌, ℕ, zero, suc, ap, sym, refl, ◌∙◌, codes, add-one}
use Rattle.std.proofs.lemmas.List.{append_assoc, append-nil}
use Rattle.jimple_tree.specs.Operands.{brackets}
use Rattle.jimple_tree.proofs.operand.write_brackets.Goals as goal

one_more : (n : ℕ) → brackets n ++ codes "[]" ≡ brackets (suc n)
unfolding brackets
one_more zero = refl
one_more (suc n) = ap (λ t. codes "[]" ++ t) (one_more n)

pub loop-init : goal.loop-init
unfolding brackets
loop-init c = sym (append-nil c.args.out.now.items)

pub loop-preserved : goal.loop-preserved
loop-preserved c =
    c.in_ok-extend_from_slice.ensures.items ∙ ap (λ t. t ++ codes "[]") c.loop.invariant
    ∙ append_assoc c.args.out.now.items (brackets c.loop.counter) (codes "[]")
    ∙ ap (λ t. c.args.out.now.items ++ t) (one_more c.loop.counter) ∙ rw add-one refl

pub returns : goal.returns
returns c =
    let e : c.loop.counter ≡ c.args.count = omega arith in
    c.loop.invariant ∙ ap (λ n. c.args.out.now.items ++ brackets n) e
