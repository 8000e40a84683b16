-- Statements, and the items of bodies, have the spellings and the beginnings of their productions.
use Rattle.std.proofs.Common.{refl}
use Rattle.jimple_words.specs.declared.kind.Kind.TheVariants as kinds
use Rattle.jimple_grammar.specs.declared.raw.RawStmt.{RawStmt}
use Rattle.jimple_grammar.specs.Grammar.{Grammar, either, given, ◌<*◌}
use Rattle.jimple_grammar.specs.Forms.{sign, name, stored, assign, store_field, store_element, local_stmt, store_static, call_stmt, if_stmt, switch_stmt, returned, return_stmt, throw_stmt, enter_stmt, exit_stmt, word_stmt, stmt, behind_name, item, later_items, code}
use Rattle.jimple_grammar.specs.AsWritten.{Same, stored_as_written, this_as_written, param_as_written, caught_as_written, assign_as_written, store_field_as_written, store_element_as_written, store_static_as_written, call_stmt_as_written, if_as_written, switch_as_written, return_as_written, throw_as_written, enter_as_written, exit_as_written, stmt_as_written, item_as_written, items_as_written, code_as_written}
use Rattle.jimple_grammar.proofs.Within.{Alike, same, no_change, turned, ◌then◌, choice, without_last_refused, row, chain, repeated}
use Rattle.jimple_grammar.proofs.Apart.{behind_apart, left_apart, right_apart, and_part, grouped, alone, quiet, changed_behind}
use Rattle.jimple_grammar.proofs.AsWrittenOperands.{choices, imm_is, call_is, element_is}
use Rattle.jimple_grammar.proofs.AsWrittenSides.{rhs_is}
use Rattle.jimple_grammar.proofs.AsWrittenIdentities.{identities_are}

stored_is : Alike stored stored_as_written
stored_is = row no_change imm_is

-- what begins with a local and isn't an identity statement
abbrev stores : Grammar RawStmt
stores = either assign_as_written (either store_field_as_written store_element_as_written)

stores_are : Alike (given (λ x s. s) name (λ x. either (assign x) (either (store_field x) (store_element x))) <* sign kinds.Semicolon) stores
unfolding assign store_field store_element assign_as_written store_field_as_written store_element_as_written
stores_are = row (behind_apart then choice (and_part (and_part alone) then row no_change rhs_is)
    (behind_apart then choice (and_part (and_part (and_part alone)) then row no_change stored_is) (and_part (and_part alone) then row (row no_change element_is) stored_is))) no_change
    then left_apart then choice no_change left_apart

-- what begins with a local
locals_are : Alike (given (λ x s. s) name local_stmt) (either (either this_as_written (either param_as_written caught_as_written)) stores)
unfolding local_stmt
locals_are = and_part behind_apart then left_apart then choice identities_are stores_are

store_static_is : Alike store_static store_static_as_written
unfolding store_static store_static_as_written
store_static_is = row (row no_change stored_is) no_change

call_stmt_is : Alike call_stmt call_stmt_as_written
unfolding call_stmt call_stmt_as_written
call_stmt_is = row (row no_change call_is) no_change

if_is : Alike if_stmt if_as_written
unfolding if_stmt if_as_written
if_is = row (row (row (row no_change imm_is) no_change) imm_is) no_change

switch_is : Alike switch_stmt switch_as_written
unfolding switch_stmt switch_as_written
switch_is = row (row (row (row (row (row (row (row (row no_change imm_is) no_change) no_change) no_change) no_change) no_change) no_change) no_change) no_change

return_is : Alike return_stmt return_as_written
unfolding return_stmt return_as_written returned
return_is = row (row no_change (choice (row no_change imm_is) no_change)) no_change

throw_is : Alike throw_stmt throw_as_written
unfolding throw_stmt throw_as_written
throw_is = row (row no_change imm_is) no_change

enter_is : Alike enter_stmt enter_as_written
unfolding enter_stmt enter_as_written
enter_is = row (row no_change imm_is) no_change

exit_is : Alike exit_stmt exit_as_written
unfolding exit_stmt exit_as_written
exit_is = row (row no_change imm_is) no_change

pub stmt_is : Alike stmt stmt_as_written
unfolding stmt word_stmt stmt_as_written
stmt_is = choice locals_are (choice store_static_is (choice call_stmt_is (choice if_is (choice no_change (choice switch_is
    (choice return_is (choice throw_is (choice no_change (choice enter_is (without_last_refused then exit_is))))))))))
    then choice (choices then choice no_change choices) no_change
    then choices then choice no_change (choices then choice no_change (choices then choice no_change (choices then choice no_change choices)))

pub stmt_same : Same stmt stmt_as_written
stmt_same = same stmt_is

pub item_is : Alike item item_as_written
unfolding item behind_name stmt item_as_written
item_is = choice (behind_apart then choice (chain no_change (λ x. quiet) then and_part alone then turned (grouped (λ x y z. refl))) changed_behind) no_change then choices then choice no_change (turned right_apart then row no_change stmt_is)

pub item_same : Same item item_as_written
item_same = same item_is

pub items_are : Alike later_items items_as_written
unfolding later_items items_as_written
items_are = repeated (λ s. item_is) no_change

pub code_is : Alike code code_as_written
unfolding code code_as_written
code_is = repeated (λ s. no_change) (row stmt_is items_are)
