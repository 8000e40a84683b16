use Rattle.std.proofs.Common.{refl, sym, ◌∙◌}
use Rattle.std.proofs.lemmas.Option.{same_Some}
use Rattle.app_program.proofs.entry.declared.Goals as goal

pub returns-in-Some-clause-some : goal.returns-in-Some-clause-some
returns-in-Some-clause-some c = (c.find_method.ensures c.in-Some.root).0 c.in-Some.is

pub returns-in-Some-clause-one : goal.returns-in-Some-clause-one
returns-in-Some-clause-one c = λ n is. same_Some n c.in-Some.root (sym ((c.find_method.ensures n).1 is) ∙ c.in-Some.is)

pub returns-in-None-clause-none : goal.returns-in-None-clause-none
returns-in-None-clause-none c = (refl, λ m is. let clash = sym c.in-None.is ∙ (c.find_method.ensures m).1 is in absurd (cc))
