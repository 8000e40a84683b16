use Rattle.std.proofs.Common.{rules, length}
use Rattle.jimple_words.specs.Kinds.{signs}
use Rattle.jimple_words.proofs.ByLength.{at_length, no_sign, beside}
use Rattle.jimple_words.proofs.kinds.sign_kind.Goals as goal

pub returns-in-1 : goal.returns-in-1
returns-in-1 c = at_length signs 1 c.args.text.now c.sign_of_one.result c.in-1.is c.sign_of_one.ensures

pub returns-in-2 : goal.returns-in-2
returns-in-2 c = at_length signs 2 c.args.text.now c.sign_of_two.result c.in-2.is c.sign_of_two.ensures

pub returns-in-3 : goal.returns-in-3
returns-in-3 c = at_length signs 3 c.args.text.now c.sign_of_three.result c.in-3.is c.sign_of_three.ensures

pub returns-in_default : goal.returns-in_default
returns-in_default c = let h = c.in_default in beside signs c.args.text.now (no_sign (length c.args.text.now) (search (rules, h)) (search (rules, h)) (search (rules, h)))
