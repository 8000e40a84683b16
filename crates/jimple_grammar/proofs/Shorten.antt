-- Forms that take one token at least.
use Rattle.std.proofs.Common.{◌≡◌, ◌<◌, Bool, false, List, length, Ok, subst, refl}
use Rattle.jimple_grammar.specs.declared.lexeme.Lexeme.{Lexeme}
use Rattle.jimple_grammar.specs.Grammar.{Grammar}
use Rattle.jimple_grammar.specs.Reading.{may_be_empty, reading}
use Rattle.jimple_grammar.specs.Forms.{field_sig, store_static, callee, call, call_stmt, if_stmt, goto_stmt, switch_stmt, return_stmt, throw_stmt, nop_stmt, enter_stmt, exit_stmt, word_stmt, stmt, item, member_type, head, member, class_heading, interface_heading, heading, class}
use Rattle.jimple_grammar.proofs.Shrink.{Shorter, shrinks}

pub shortens : {A : Type 0} (g : Grammar A) → may_be_empty g ≡ false → (ts : List Lexeme) (x : A × List Lexeme) → reading g ts ≡ Ok x → length x.1 < length ts
shortens g some ts x e = subst (λ (c : Bool). Shorter c ts x.1) some (shrinks g ts x e)

word_some : may_be_empty word_stmt ≡ false
unfolding field_sig store_static callee call call_stmt if_stmt goto_stmt switch_stmt return_stmt throw_stmt nop_stmt enter_stmt exit_stmt word_stmt
word_some = refl

pub stmt_some : may_be_empty stmt ≡ false
unfolding stmt
stmt_some = word_some

pub item_some : may_be_empty item ≡ false
unfolding item
item_some = word_some

pub member_some : may_be_empty member ≡ false
unfolding member_type head member
member_some = refl

pub class_some : may_be_empty class ≡ false
unfolding class_heading interface_heading heading class
class_some = refl
