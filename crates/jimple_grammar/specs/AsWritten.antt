-- The productions of the grammar in the order and the words of the document (docs/FORMATS.md, "Grammar"), each with all of
-- its parts in a row. `Forms` has those that begin alike with what they share in front; both have the same spellings, with
-- the same trees, and the same beginnings. A token that a form names only to refuse it stands in `Forms` alone, but for those
-- beyond the room for parameters and locals: it spells and begins nothing.
use Rattle.std.specs.Prelude.{◌≡◌, ◌↔◌, ℕ, zero, suc, List, [], ◌∷◌, ◌++◌, length, map, Option, Some, None}
use Rattle.clean_base.specs.Limits.{most_locals}
use Rattle.jimple_words.specs.declared.kind.Kind.TheVariants as kinds
use Rattle.jimple_grammar.specs.declared.lexeme.Lexeme.{Lexeme}
use Rattle.jimple_grammar.specs.declared.raw.RawBody.{RawBody}
use Rattle.jimple_grammar.specs.declared.raw.RawCall.{RawCall}
use Rattle.jimple_grammar.specs.declared.raw.RawCallee.{RawCallee}
use Rattle.jimple_grammar.specs.declared.raw.RawClass.{RawClass}
use Rattle.jimple_grammar.specs.declared.raw.RawCode.{RawCode}
use Rattle.jimple_grammar.specs.declared.raw.RawGiven.TheVariants as givens
use Rattle.jimple_grammar.specs.declared.raw.RawHead.{RawHead}
use Rattle.jimple_grammar.specs.declared.raw.RawImm.{RawImm}
use Rattle.jimple_grammar.specs.declared.raw.RawImm.TheVariants as imms
use Rattle.jimple_grammar.specs.declared.raw.RawItem.{RawItem}
use Rattle.jimple_grammar.specs.declared.raw.RawItem.TheVariants as items
use Rattle.jimple_grammar.specs.declared.raw.RawMember.{RawMember}
use Rattle.jimple_grammar.specs.declared.raw.RawMember.TheVariants as members_are
use Rattle.jimple_grammar.specs.declared.raw.RawRhs.{RawRhs}
use Rattle.jimple_grammar.specs.declared.raw.RawRhs.TheVariants as sides
use Rattle.jimple_grammar.specs.declared.raw.RawStmt.{RawStmt}
use Rattle.jimple_grammar.specs.declared.raw.RawStmt.TheVariants as stmts
use Rattle.jimple_grammar.specs.declared.raw.RawType.{RawType}
use Rattle.jimple_words.specs.Sets.{constants, conditions, operators, based_calls, switches, sure_types}
use Rattle.jimple_grammar.specs.Grammar.{Grammar, Spells, Begins, nothing, token, both, either, many, plain, given, ◌<*>◌, ◌<*◌, ◌*>◌, ends, times}
use Rattle.jimple_grammar.specs.Forms.{sign, name, any_name, bracket_pair, brackets, typed, ty, sig, field_sig, static_callee, based_callee, before_length, lengths_and_bare, multi, new_object, static_load, jump, goto_stmt, cases, maybe_semicolon, switched, nop_stmt, catches, before_item, before_label, label, front_items, coded, before_decl, decl, room_behind, code_catches, bodied, heading_params, throws, modifier, headed, before_modifier, class_heading, interface_heading, before_member, heading_members, before_class_modifier, classed, before_class}

-- The same tokens spell both forms, with the same trees, and the same tokens begin both.
pub record Same {A : Type 0} (a b : Grammar A) : Type 0 where
  pub spells : (ts : List Lexeme) (v : A) → Spells a ts v ↔ Spells b ts v
  pub begins : (ts : List Lexeme) → Begins a ts ↔ Begins b ts

-- Operands and calls

-- imm = local | number | string | "null" | "class" string
unfoldable pub imm_as_written : Grammar RawImm
imm_as_written = either (nothing imms.Local <*> name) (either (nothing imms.Literal <*> token constants) (nothing imms.Class <* sign kinds.Class <*> sign kinds.Text))

abbrev pub next_imm_as_written : Grammar RawImm
next_imm_as_written = sign kinds.Comma *> imm_as_written

-- so many operands, with commas between
unfoldable pub args_as_written : ℕ → Grammar (List RawImm)
args_as_written zero = nothing []
args_as_written (suc n) = both (λ x xs. x ∷ xs) imm_as_written (times n next_imm_as_written)

-- "(" [imms] ")", with as many arguments as the signature has parameters
unfoldable pub arguments_as_written : RawCallee → Grammar (List RawImm)
arguments_as_written callee = sign kinds.OpenParen *> args_as_written (length callee.sig.params) <* sign kinds.CloseParen

abbrev pub with_arguments : RawCallee → List RawImm → RawCall
with_arguments callee args = record { callee = callee; args = args }

-- call = "staticinvoke" sig "(" [imms] ")" | ("virtualinvoke" | "interfaceinvoke" | "specialinvoke") local "." sig "(" [imms] ")"
unfoldable pub call_as_written : Grammar RawCall
call_as_written = either (given with_arguments (nothing static_callee <*> sign kinds.Staticinvoke <*> sig) arguments_as_written)
    (given with_arguments (nothing based_callee <*> token based_calls <*> name <* sign kinds.Dot <*> sig) arguments_as_written)

-- Right sides

-- "[" imm "]"
unfoldable pub element_as_written : Grammar RawImm
element_as_written = sign kinds.OpenBracket *> imm_as_written <* sign kinds.CloseBracket

-- imm
unfoldable pub use_as_written : Grammar RawRhs
use_as_written = nothing sides.Use <*> imm_as_written

-- imm binop imm
unfoldable pub binary_as_written : Grammar RawRhs
binary_as_written = nothing (λ left op right. sides.Binary left op right) <*> imm_as_written <*> token operators <*> imm_as_written

-- imm "instanceof" type
unfoldable pub instance_as_written : Grammar RawRhs
instance_as_written = nothing (λ left ty. sides.InstanceOf left ty) <*> imm_as_written <* sign kinds.Instanceof <*> ty

-- "lengthof" imm
unfoldable pub length_as_written : Grammar RawRhs
length_as_written = nothing sides.Length <* sign kinds.Lengthof <*> imm_as_written

-- "neg" imm
unfoldable pub negated_as_written : Grammar RawRhs
negated_as_written = nothing sides.Neg <* sign kinds.Neg <*> imm_as_written

-- "(" type ")" imm
unfoldable pub cast_as_written : Grammar RawRhs
cast_as_written = nothing (λ ty x. sides.Cast ty x) <* sign kinds.OpenParen <*> ty <* sign kinds.CloseParen <*> imm_as_written

-- local "." fieldsig
unfoldable pub load_as_written : Grammar RawRhs
load_as_written = nothing (λ x f. sides.Load x f) <*> name <* sign kinds.Dot <*> field_sig

-- local "[" imm "]"
unfoldable pub load_element_as_written : Grammar RawRhs
load_element_as_written = nothing (λ x i. sides.LoadElement x i) <*> name <*> element_as_written

-- "newarray" "(" type ")" "[" imm "]"
unfoldable pub new_array_as_written : Grammar RawRhs
new_array_as_written = nothing (λ ty x. sides.NewArray ty x) <* sign kinds.Newarray <* sign kinds.OpenParen <*> ty <* sign kinds.CloseParen <*> element_as_written

-- ("[" imm "]")* ("[" "]")*
abbrev pub later_lengths_as_written : Grammar (List RawImm × ℕ)
later_lengths_as_written = plain lengths_and_bare before_length element_as_written brackets

-- "newmultiarray" "(" type ")" ("[" imm "]")+ ("[" "]")*
unfoldable pub new_multi_as_written : Grammar RawRhs
new_multi_as_written = nothing multi <* sign kinds.Newmultiarray <* sign kinds.OpenParen <*> ty <* sign kinds.CloseParen <*> element_as_written <*> later_lengths_as_written

-- call
unfoldable pub called_as_written : Grammar RawRhs
called_as_written = nothing sides.Call <*> call_as_written

unfoldable pub rhs_as_written : Grammar RawRhs
rhs_as_written = either use_as_written (either binary_as_written (either instance_as_written (either length_as_written (either negated_as_written
    (either cast_as_written (either load_as_written (either load_element_as_written (either static_load (either new_object
    (either new_array_as_written (either new_multi_as_written called_as_written)))))))))))

-- Statements

-- "=" imm
abbrev pub stored_as_written : Grammar RawImm
stored_as_written = sign kinds.Equals *> imm_as_written

-- local ":=" "@" "this" ":" type ";"
unfoldable pub this_as_written : Grammar RawStmt
this_as_written = nothing (λ x ty. stmts.Identity x (givens.This ty)) <*> name <* sign kinds.ColonEquals <* sign kinds.At <* sign kinds.This <* sign kinds.Colon <*> ty <* sign kinds.Semicolon

-- local ":=" "@" "parameterN" ":" type ";"
unfoldable pub param_as_written : Grammar RawStmt
param_as_written = nothing (λ x word ty. stmts.Identity x (givens.Param word ty)) <*> name <* sign kinds.ColonEquals <* sign kinds.At <*> sign kinds.Parameter <* sign kinds.Colon <*> ty <* sign kinds.Semicolon

-- local ":=" "@" "caughtexception" ";"
unfoldable pub caught_as_written : Grammar RawStmt
caught_as_written = nothing (λ x. stmts.Identity x givens.Caught) <*> name <* sign kinds.ColonEquals <* sign kinds.At <* sign kinds.Caughtexception <* sign kinds.Semicolon

-- local "=" rhs ";"
unfoldable pub assign_as_written : Grammar RawStmt
assign_as_written = nothing (λ x r. stmts.Assign x r) <*> name <* sign kinds.Equals <*> rhs_as_written <* sign kinds.Semicolon

-- local "." fieldsig "=" imm ";"
unfoldable pub store_field_as_written : Grammar RawStmt
store_field_as_written = nothing (λ x f v. stmts.StoreField x f v) <*> name <* sign kinds.Dot <*> field_sig <*> stored_as_written <* sign kinds.Semicolon

-- local "[" imm "]" "=" imm ";"
unfoldable pub store_element_as_written : Grammar RawStmt
store_element_as_written = nothing (λ x i v. stmts.StoreElement x i v) <*> name <*> element_as_written <*> stored_as_written <* sign kinds.Semicolon

-- fieldsig "=" imm ";"
unfoldable pub store_static_as_written : Grammar RawStmt
store_static_as_written = nothing (λ f v. stmts.StoreStatic f v) <*> field_sig <*> stored_as_written <* sign kinds.Semicolon

-- call ";"
unfoldable pub call_stmt_as_written : Grammar RawStmt
call_stmt_as_written = nothing stmts.Call <*> call_as_written <* sign kinds.Semicolon

-- "if" imm cond imm "goto" label ";"
unfoldable pub if_as_written : Grammar RawStmt
if_as_written = nothing (λ left cond right target. stmts.If left cond right target) <* sign kinds.If <*> imm_as_written <*> token conditions <*> imm_as_written <*> jump

-- switch "(" imm ")" "{" ("case" number ":" "goto" label ";")* "default" ":" "goto" label ";" "}" [";"]
unfoldable pub switch_as_written : Grammar RawStmt
switch_as_written = nothing switched <*> token switches <* sign kinds.OpenParen <*> imm_as_written <* sign kinds.CloseParen <* sign kinds.OpenBrace <*> cases
    <* sign kinds.Default <* sign kinds.Colon <*> jump <* sign kinds.CloseBrace <* maybe_semicolon

-- "return" [imm] ";"
unfoldable pub return_as_written : Grammar RawStmt
return_as_written = nothing stmts.Return <* sign kinds.Return <*> either (nothing Some <*> imm_as_written) (nothing None) <* sign kinds.Semicolon

-- "throw" imm ";"
unfoldable pub throw_as_written : Grammar RawStmt
throw_as_written = nothing stmts.Throw <* sign kinds.Throw <*> imm_as_written <* sign kinds.Semicolon

-- "entermonitor" imm ";"
unfoldable pub enter_as_written : Grammar RawStmt
enter_as_written = nothing stmts.Enter <* sign kinds.Entermonitor <*> imm_as_written <* sign kinds.Semicolon

-- "exitmonitor" imm ";"
unfoldable pub exit_as_written : Grammar RawStmt
exit_as_written = nothing stmts.Exit <* sign kinds.Exitmonitor <*> imm_as_written <* sign kinds.Semicolon

unfoldable pub stmt_as_written : Grammar RawStmt
stmt_as_written = either this_as_written (either param_as_written (either caught_as_written (either assign_as_written (either store_field_as_written (either store_element_as_written
    (either store_static_as_written (either call_stmt_as_written (either if_as_written (either goto_stmt (either switch_as_written
    (either return_as_written (either throw_as_written (either nop_stmt (either enter_as_written exit_as_written))))))))))))))

-- Bodies

-- item = label ":" | stmt
unfoldable pub item_as_written : Grammar RawItem
item_as_written = either (nothing items.Label <*> label) (nothing items.Stmt <*> stmt_as_written)

-- item*
unfoldable pub items_as_written : Grammar (List RawItem)
items_as_written = plain (λ xs end. xs) before_item item_as_written ends

-- item*, with at least one statement; in front of the first one stand labels
unfoldable pub code_as_written : Grammar RawCode
code_as_written = plain coded before_label label (both front_items stmt_as_written items_as_written)

-- the items of a body, in their order
abbrev pub items_of : RawCode → List RawItem
items_of code = map items.Label code.labels ++ items.Stmt code.front ∷ code.rest

-- At least one of the items is a statement.
abbrev pub HasStatement : List RawItem → Type 0
HasStatement [] = ⊥
HasStatement (items.Label x ∷ rest) = HasStatement rest
HasStatement (items.Stmt s ∷ rest) = Unit {0}

-- Code is any number of items with at least one statement among them.
pub record WithStatement (code : Grammar RawCode) (any_items : Grammar (List RawItem)) : Type 0 where
  pub spells : (ts : List Lexeme) (v : RawCode) → Spells code ts v ↔ Spells any_items ts (items_of v)
  pub all : (xs : List RawItem) → HasStatement xs ↔ ((v : RawCode) × (xs ≡ items_of v))
  pub begins : (ts : List Lexeme) → Begins code ts ↔ Begins any_items ts

-- body = "{" decl* item* catch* "}", with at least one statement, and at most 65,535 locals
unfoldable pub body_as_written : Grammar RawBody
body_as_written = sign kinds.OpenBrace *> many bodied before_decl decl room_behind most_locals (both code_catches code_as_written catches) <* sign kinds.CloseBrace

-- Members and classes

-- ";" | body
abbrev pub body_or_none_as_written : Grammar (Option RawBody)
body_or_none_as_written = either (nothing (λ end. None) <*> sign kinds.Semicolon) (nothing Some <*> body_as_written)

-- the type of a member: a further modifier word is none where a word follows, and so has one pair of brackets at least
unfoldable pub member_ty_as_written : Grammar RawType
member_ty_as_written = either (both typed (token sure_types) brackets) (both (λ base dims. typed base (suc dims)) (sign kinds.Further) (bracket_pair *> brackets))

abbrev pub type_and_name : RawType → Lexeme → RawType × Lexeme
type_and_name ty name = (ty, name)

-- modifier* type anyname
unfoldable pub head_as_written : Grammar RawHead
head_as_written = plain headed before_modifier modifier (both type_and_name member_ty_as_written any_name)

-- modifier* type anyname ";"
unfoldable pub field_as_written : Grammar RawMember
field_as_written = nothing members_are.Field <*> head_as_written <* sign kinds.Semicolon

-- modifier* type anyname "(" [types] ")" ["throws" names] (";" | body)
unfoldable pub method_as_written : Grammar RawMember
method_as_written = nothing (λ h params throws body. members_are.Method h (record { params = params; throws = throws; body = body })) <*> head_as_written
    <* sign kinds.OpenParen <*> heading_params <* sign kinds.CloseParen <*> throws <*> body_or_none_as_written

unfoldable pub member_as_written : Grammar RawMember
member_as_written = either field_as_written method_as_written

-- "{" member* "}"
unfoldable pub members_as_written : Grammar (List RawMember)
members_as_written = sign kinds.OpenBrace *> plain (λ xs end. xs) before_member member_as_written (sign kinds.CloseBrace)

-- class = modifier* "class" name ["extends" name] ["implements" names] "{" member* "}"
--       | modifier* "interface" name ["extends" names] ["implements" names] "{" member* "}"
unfoldable pub class_as_written : Grammar RawClass
class_as_written = either (plain classed before_class_modifier modifier (both heading_members class_heading members_as_written))
    (plain classed before_class_modifier modifier (both heading_members interface_heading members_as_written))

-- file = class*
unfoldable pub file_as_written : Grammar (List RawClass)
file_as_written = plain (λ xs end. xs) before_class class_as_written ends
