use Rattle.std.proofs.Common.{rules, length}
use Rattle.jimple_words.specs.Kinds.{keywords}
use Rattle.jimple_words.proofs.ByLength.{at_length, no_keyword, beside}
use Rattle.jimple_words.proofs.kinds.keyword_kind.Goals as goal

pub returns-in-2 : goal.returns-in-2
returns-in-2 c = at_length keywords 2 c.args.text.now c.keyword_of_two.result c.in-2.is c.keyword_of_two.ensures

pub returns-in-3 : goal.returns-in-3
returns-in-3 c = at_length keywords 3 c.args.text.now c.keyword_of_three.result c.in-3.is c.keyword_of_three.ensures

pub returns-in-4 : goal.returns-in-4
returns-in-4 c = at_length keywords 4 c.args.text.now c.keyword_of_four.result c.in-4.is c.keyword_of_four.ensures

pub returns-in-5 : goal.returns-in-5
returns-in-5 c = at_length keywords 5 c.args.text.now c.keyword_of_five.result c.in-5.is c.keyword_of_five.ensures

pub returns-in-6 : goal.returns-in-6
returns-in-6 c = at_length keywords 6 c.args.text.now c.keyword_of_six.result c.in-6.is c.keyword_of_six.ensures

pub returns-in-7 : goal.returns-in-7
returns-in-7 c = at_length keywords 7 c.args.text.now c.keyword_of_seven.result c.in-7.is c.keyword_of_seven.ensures

pub returns-in-8 : goal.returns-in-8
returns-in-8 c = at_length keywords 8 c.args.text.now c.keyword_of_eight.result c.in-8.is c.keyword_of_eight.ensures

pub returns-in-9 : goal.returns-in-9
returns-in-9 c = at_length keywords 9 c.args.text.now c.keyword_of_nine.result c.in-9.is c.keyword_of_nine.ensures

pub returns-in-10 : goal.returns-in-10
returns-in-10 c = at_length keywords 10 c.args.text.now c.keyword_of_ten.result c.in-10.is c.keyword_of_ten.ensures

pub returns-in-11 : goal.returns-in-11
returns-in-11 c = at_length keywords 11 c.args.text.now c.keyword_of_eleven.result c.in-11.is c.keyword_of_eleven.ensures

pub returns-in-12 : goal.returns-in-12
returns-in-12 c = at_length keywords 12 c.args.text.now c.keyword_of_twelve.result c.in-12.is c.keyword_of_twelve.ensures

pub returns-in-13 : goal.returns-in-13
returns-in-13 c = at_length keywords 13 c.args.text.now c.keyword_of_thirteen.result c.in-13.is c.keyword_of_thirteen.ensures

pub returns-in-15 : goal.returns-in-15
returns-in-15 c = at_length keywords 15 c.args.text.now c.keyword_of_fifteen.result c.in-15.is c.keyword_of_fifteen.ensures

pub returns-in_default : goal.returns-in_default
returns-in_default c = let h = c.in_default in beside keywords c.args.text.now (no_keyword (length c.args.text.now) (search (rules, h)) (search (rules, h)) (search (rules, h)) (search (rules, h)) (search (rules, h)) (search (rules, h)) (search (rules, h)) (search (rules, h)) (search (rules, h)) (search (rules, h)) (search (rules, h)) (search (rules, h)) (search (rules, h)))
