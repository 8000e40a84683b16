use Rattle.std.proofs.Common.{sym, ◌∙◌, ap, subst, ◌≡◌, ◌≢◌, Bool, true, false, Option, Some, true≢false}
use Rattle.std.specs.Cmp.{IsEquivalence}
use Rattle.solver_core.proofs.state.holds.Goals as goal

unlike : {T : Type 0} (eq : T → T → Bool) → IsEquivalence eq → (x y : T) (hand : Option T) (b : Bool) → hand ≡ Some x → b ≡ eq x y → b ≡ false → hand ≢ Some y
unlike {T} eq laws x y hand b is tested differs same =
    let one : x ≡ y = cc (is, same) in
    let itself : eq x y ≡ true = subst (λ (z : T). eq x z ≡ true) one (laws.refl x) in
    true≢false (sym itself ∙ sym tested ∙ differs)

pub returns-in-Some-clause-yes : goal.returns-in-Some-clause-yes
returns-in-Some-clause-yes g c = λ yes. c.in-Some.is ∙ ap (λ x. Some x) (g.met.T.Plain.exact c.in-Some.other c.args.item (sym c.eq.ensures ∙ yes))

pub returns-in-Some-clause-no : goal.returns-in-Some-clause-no
returns-in-Some-clause-no g c = unlike g.T.PartialEq.eq g.met.T.Eq.laws c.in-Some.other c.args.item c.args.hand c.eq.result c.in-Some.is c.eq.ensures
