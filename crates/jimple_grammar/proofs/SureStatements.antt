-- The choices of statements show by the token in front. No statement is one token, and none that begins with a name is two.
use Rattle.std.proofs.Common.{◌≡◌, true, [], ◌∷◌, refl, rules}
use Rattle.jimple_words.specs.declared.kind.Kind.TheVariants as kinds
use Rattle.jimple_grammar.specs.declared.lexeme.Lexeme.{Lexeme}
use Rattle.jimple_grammar.specs.declared.raw.RawStmt.{RawStmt}
use Rattle.jimple_words.specs.Kind.{Kinds}
use Rattle.jimple_grammar.specs.Grammar.{Grammar, either, ends}
use Rattle.jimple_grammar.specs.Forms.{field_sig, constant, handle, imm, callee, call, element, this_given, param_given, caught_given, given_value, stored, identity, assign, store_field, store_element, local_stmt, store_static, call_stmt, if_stmt, goto_stmt, case, cases, switch_stmt, returned, return_stmt, throw_stmt, nop_stmt, enter_stmt, exit_stmt, word_stmt, stmt}
use Rattle.jimple_grammar.proofs.Starts.{disjoint}
use Rattle.jimple_grammar.proofs.Sure.{Sure, plain_sure}
use Rattle.jimple_grammar.proofs.SureOperands.{sure_ty, sure_field_sig, sure_imm, sure_call}
use Rattle.jimple_grammar.proofs.SureRightSides.{semicolon, sure_element, sure_rhs}

sure_this_given : Sure this_given semicolon
unfolding this_given
sure_this_given = search sure_ty

sure_param_given : Sure param_given semicolon
unfolding param_given
sure_param_given = search sure_ty

sure_caught_given : (after : Kinds) → Sure caught_given after
unfolding caught_given
sure_caught_given after = search rules

sure_given_value : Sure given_value semicolon
unfolding given_value this_given param_given caught_given
sure_given_value = (tt, (sure_this_given, (sure_param_given, (sure_caught_given semicolon, tt, refl, refl), refl, refl), refl, refl))

sure_stored : Sure stored semicolon
sure_stored = (tt, sure_imm semicolon refl)

pub sure_identity : (x : Lexeme) → Sure (identity x) semicolon
unfolding identity
sure_identity x = search sure_given_value

pub sure_assign : (x : Lexeme) → Sure (assign x) semicolon
unfolding assign
sure_assign x = search sure_rhs

pub sure_store_field : (x : Lexeme) → Sure (store_field x) semicolon
unfolding store_field
sure_store_field x = search (sure_field_sig, sure_imm)

sure_store_element : (x : Lexeme) → Sure (store_element x) semicolon
unfolding store_element
sure_store_element x = search (sure_element, sure_imm)

-- behind a local, without the `;`
abbrev pub local_rest : Lexeme → Grammar RawStmt
local_rest x = either (identity x) (either (assign x) (either (store_field x) (store_element x)))

sure_local_rest : (x : Lexeme) → Sure (local_rest x) semicolon
unfolding identity assign store_field store_element element
sure_local_rest x = (sure_identity x, (sure_assign x, (sure_store_field x, sure_store_element x, refl, refl), refl, refl), refl, refl)

pub sure_local_stmt : (x : Lexeme) (after : Kinds) → Sure (local_stmt x) after
unfolding local_stmt
sure_local_stmt x after = (sure_local_rest x, tt)

sure_store_static : (after : Kinds) → Sure store_static after
unfolding store_static
sure_store_static after = search (sure_field_sig, sure_imm)

sure_call_stmt : (after : Kinds) → Sure call_stmt after
unfolding call_stmt
sure_call_stmt after = search sure_call

sure_if_stmt : (after : Kinds) → Sure if_stmt after
unfolding if_stmt
sure_if_stmt after = search sure_imm

sure_goto_stmt : (after : Kinds) → Sure goto_stmt after
unfolding goto_stmt
sure_goto_stmt after = search rules

sure_case : (after : Kinds) → Sure case after
unfolding case
sure_case after = search rules

abbrev default : Kinds
default = kinds.Default ∷ []

sure_cases : Sure cases default
unfolding cases case
sure_cases = plain_sure (λ xs end. xs) case ends default (sure_case (kinds.Case ∷ default)) tt refl refl

sure_switch_stmt : (after : Kinds) → disjoint semicolon after ≡ true → Sure switch_stmt after
unfolding switch_stmt
sure_switch_stmt after d = search (d, sure_imm, sure_cases)

sure_returned : Sure returned semicolon
unfolding returned imm handle constant
sure_returned = ((tt, sure_imm semicolon refl), tt, refl, refl)

sure_return_stmt : (after : Kinds) → Sure return_stmt after
unfolding return_stmt
sure_return_stmt after = search sure_returned

sure_throw_stmt : (after : Kinds) → Sure throw_stmt after
unfolding throw_stmt
sure_throw_stmt after = search sure_imm

sure_nop_stmt : (after : Kinds) → Sure nop_stmt after
unfolding nop_stmt
sure_nop_stmt after = search rules

sure_enter_stmt : (after : Kinds) → Sure enter_stmt after
unfolding enter_stmt
sure_enter_stmt after = search sure_imm

sure_exit_stmt : (after : Kinds) → Sure exit_stmt after
unfolding exit_stmt
sure_exit_stmt after = search sure_imm

pub sure_word_stmt : (after : Kinds) → disjoint semicolon after ≡ true → Sure word_stmt after
unfolding word_stmt store_static field_sig call_stmt call callee if_stmt goto_stmt switch_stmt return_stmt throw_stmt nop_stmt enter_stmt exit_stmt
sure_word_stmt after d = (sure_store_static after, (sure_call_stmt after, (sure_if_stmt after, (sure_goto_stmt after, (sure_switch_stmt after d, (sure_return_stmt after, (sure_throw_stmt after, (sure_nop_stmt after, (sure_enter_stmt after, (sure_exit_stmt after, tt, refl, refl), refl, refl), refl, refl), refl, refl), refl, refl), refl, refl), refl, refl), refl, refl), refl, refl), refl, refl)

pub sure_stmt : (after : Kinds) → disjoint semicolon after ≡ true → Sure stmt after
unfolding stmt word_stmt store_static field_sig call_stmt call callee if_stmt goto_stmt switch_stmt return_stmt throw_stmt nop_stmt enter_stmt exit_stmt
sure_stmt after d = ((tt, (λ x. (tt, sure_local_stmt x after)), refl), sure_word_stmt after d, refl, refl)
