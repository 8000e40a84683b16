-- The grammar of class files, from the smallest form to the file (docs/FORMATS.md, "Grammar"). A form with several
-- productions that begin alike is written with what they share in front: `local` and what stands behind a local, say.
use Rattle.std.specs.Prelude.{ℕ, zero, suc, pred, ◌-◌, true, false, List, [], ◌∷◌, ◌++◌, length, Option, Some, None}
use Rattle.clean_base.specs.Limits.{most_locals, most_params}
use Rattle.jimple_words.specs.declared.kind.Kind.{Kind}
use Rattle.jimple_words.specs.declared.kind.Kind.TheVariants as kinds
use Rattle.jimple_grammar.specs.declared.lexeme.Lexeme.{Lexeme}
use Rattle.jimple_grammar.specs.declared.raw.RawBody.{RawBody}
use Rattle.jimple_grammar.specs.declared.raw.RawCall.{RawCall}
use Rattle.jimple_grammar.specs.declared.raw.RawCallee.{RawCallee}
use Rattle.jimple_grammar.specs.declared.raw.RawCase.{RawCase}
use Rattle.jimple_grammar.specs.declared.raw.RawCatch.{RawCatch}
use Rattle.jimple_grammar.specs.declared.raw.RawClass.{RawClass}
use Rattle.jimple_grammar.specs.declared.raw.RawCode.{RawCode}
use Rattle.jimple_grammar.specs.declared.raw.RawDecl.{RawDecl}
use Rattle.jimple_grammar.specs.declared.raw.RawFieldSig.{RawFieldSig}
use Rattle.jimple_grammar.specs.declared.raw.RawGiven.{RawGiven}
use Rattle.jimple_grammar.specs.declared.raw.RawGiven.TheVariants as givens
use Rattle.jimple_grammar.specs.declared.raw.RawHead.{RawHead}
use Rattle.jimple_grammar.specs.declared.raw.RawHeading.{RawHeading}
use Rattle.jimple_grammar.specs.declared.raw.RawImm.{RawImm}
use Rattle.jimple_grammar.specs.declared.raw.RawImm.TheVariants as imms
use Rattle.jimple_grammar.specs.declared.raw.RawItem.{RawItem}
use Rattle.jimple_grammar.specs.declared.raw.RawItem.TheVariants as items
use Rattle.jimple_grammar.specs.declared.raw.RawMember.{RawMember}
use Rattle.jimple_grammar.specs.declared.raw.RawMember.TheVariants as members_are
use Rattle.jimple_grammar.specs.declared.raw.RawRhs.{RawRhs}
use Rattle.jimple_grammar.specs.declared.raw.RawRhs.TheVariants as sides
use Rattle.jimple_grammar.specs.declared.raw.RawSig.{RawSig}
use Rattle.jimple_grammar.specs.declared.raw.RawStmt.{RawStmt}
use Rattle.jimple_grammar.specs.declared.raw.RawStmt.TheVariants as stmts
use Rattle.jimple_grammar.specs.declared.raw.RawType.{RawType}
use Rattle.jimple_words.specs.Sets.{names, plain_names, primitives, types, words, modifiers, constants, conditions, operators, sure_types, based_calls, switches, statement_words}
use Rattle.jimple_grammar.specs.Grammar.{Look, Grammar, nothing, token, refused, both, either, many, plain, given, ◌<*>◌, ◌<*◌, ◌*>◌, ends, times}

-- Why a token is refused: it is a word that isn't supported, one name too many, or a `:` behind a word that isn't supported.
abbrev pub unsupported : ℕ
unsupported = 0

abbrev pub too_many : ℕ
too_many = 1

abbrev pub word_before : ℕ
word_before = 2

-- Names, types and signatures

abbrev pub sign : Kind → Grammar Lexeme
sign k = token (k ∷ [])

-- name, local, label: a word that isn't a keyword
abbrev pub name : Grammar Lexeme
name = token names

-- anyname: any word
abbrev pub any_name : Grammar Lexeme
any_name = token words

-- ("," a)*
abbrev pub others : {A : Type 0} → Grammar A → Grammar (List A)
others a = plain (λ xs end. xs) (((kinds.Comma ∷ []) ∷ []) ∷ []) (sign kinds.Comma *> a) ends

-- a ("," a)*
abbrev pub one_or_more : {A : Type 0} → Grammar A → Grammar (List A)
one_or_more a = both (λ x xs. x ∷ xs) a (others a)

-- names = name ("," name)*
unfoldable pub several_names : Grammar (List Lexeme)
several_names = one_or_more name

-- "[" "]"
abbrev pub bracket_pair : Grammar Lexeme
bracket_pair = sign kinds.OpenBracket *> sign kinds.CloseBracket

-- ("[" "]")*
unfoldable pub brackets : Grammar ℕ
brackets = plain (λ pairs end. length pairs) (((kinds.OpenBracket ∷ []) ∷ []) ∷ []) bracket_pair ends

abbrev pub typed : Lexeme → ℕ → RawType
typed base dims = record { base = base; dims = dims }

-- type = (name | primitive) ("[" "]")*
unfoldable pub ty : Grammar RawType
ty = both typed (token types) brackets

-- types = type ("," type)*
unfoldable pub several_types : Grammar (List RawType)
several_types = one_or_more ty

-- [types]
unfoldable pub params : Grammar (List RawType)
params = either several_types (nothing [])

-- sig = "<" name ":" type anyname "(" [types] ")" ">"
unfoldable pub sig : Grammar RawSig
sig = nothing (λ class result name params. record { class = class; result = result; name = name; params = params })
    <* sign kinds.Less <*> name <* sign kinds.Colon <*> ty <*> any_name <* sign kinds.OpenParen <*> params <* sign kinds.CloseParen <* sign kinds.Greater

-- fieldsig = "<" name ":" type anyname ">"
unfoldable pub field_sig : Grammar RawFieldSig
field_sig = nothing (λ class ty name. record { class = class; ty = ty; name = name })
    <* sign kinds.Less <*> name <* sign kinds.Colon <*> ty <*> any_name <* sign kinds.Greater

-- Operands and calls

-- number | string | "null" | "class" string
unfoldable pub constant : Grammar RawImm
constant = either (nothing imms.Literal <*> token constants) (nothing imms.Class <* sign kinds.Class <*> sign kinds.Text)

-- local; where an operand begins, `methodhandle` and `methodtype` are refused before ":"
abbrev pub handle_end : RawImm → Grammar RawImm
handle_end x = either (refused word_before (kinds.Colon ∷ [])) (nothing x)

unfoldable pub handle : Grammar RawImm
handle = given (λ t x. x) (sign kinds.Handle) (λ t. handle_end (imms.Local t))

-- imm = local | number | string | "null" | "class" string
unfoldable pub imm : Grammar RawImm
imm = either (nothing imms.Local <*> token plain_names) (either handle constant)

unfoldable pub next_imm : Grammar RawImm
next_imm = sign kinds.Comma *> imm

-- so many operands, with commas between
unfoldable pub args : ℕ → Grammar (List RawImm)
args zero = nothing []
args (suc n) = both (λ x xs. x ∷ xs) imm (times n next_imm)

abbrev pub static_callee : Lexeme → RawSig → RawCallee
static_callee word sig = record { word = word; base = None; sig = sig }

abbrev pub based_callee : Lexeme → Lexeme → RawSig → RawCallee
based_callee word base sig = record { word = word; base = Some base; sig = sig }

-- "staticinvoke" sig | ("virtualinvoke" | "interfaceinvoke" | "specialinvoke") local "." sig; "dynamicinvoke" is refused
unfoldable pub callee : Grammar RawCallee
callee = either (nothing static_callee <*> sign kinds.Staticinvoke <*> sig)
    (either (nothing based_callee <*> token based_calls <*> name <* sign kinds.Dot <*> sig)
    (refused unsupported (kinds.Dynamicinvoke ∷ [])))

-- call = callee "(" [imms] ")", with as many arguments as the signature has parameters
unfoldable pub call : Grammar RawCall
call = given (λ callee args. record { callee = callee; args = args }) callee
    (λ callee. sign kinds.OpenParen *> args (length callee.sig.params) <* sign kinds.CloseParen)

-- Right sides

-- "[" imm "]"
unfoldable pub element : Grammar RawImm
element = sign kinds.OpenBracket *> imm <* sign kinds.CloseBracket

-- behind an operand: "instanceof" type, binop imm, or nothing
unfoldable pub behind_operand : RawImm → Grammar RawRhs
behind_operand left = either (nothing (λ ty. sides.InstanceOf left ty) <* sign kinds.Instanceof <*> ty)
    (either (nothing (λ op right. sides.Binary left op right) <*> token operators <*> imm)
    (nothing (sides.Use left)))

-- behind a local: "." fieldsig, "[" imm "]", or as behind an operand
unfoldable pub behind_local : Lexeme → Grammar RawRhs
behind_local x = either (nothing (λ f. sides.Load x f) <* sign kinds.Dot <*> field_sig)
    (either (nothing (λ i. sides.LoadElement x i) <*> element)
    (behind_operand (imms.Local x)))

-- the same behind `methodhandle` and `methodtype`, where ":" is refused
unfoldable pub behind_handle : Lexeme → Grammar RawRhs
behind_handle x = either (refused word_before (kinds.Colon ∷ [])) (behind_local x)

-- "(" type ")" imm
unfoldable pub cast : Grammar RawRhs
cast = nothing (λ ty x. sides.Cast ty x) <* sign kinds.OpenParen <*> ty <* sign kinds.CloseParen <*> imm

-- "newarray" "(" type ")" "[" imm "]"
unfoldable pub new_array : Grammar RawRhs
new_array = nothing (λ ty x. sides.NewArray ty x) <* sign kinds.Newarray <* sign kinds.OpenParen <*> ty <* sign kinds.CloseParen <*> element

abbrev pub before_length : Look
before_length = ((kinds.OpenBracket ∷ []) ∷ (names ++ kinds.Number ∷ kinds.Text ∷ kinds.Null ∷ kinds.Class ∷ []) ∷ []) ∷ []

abbrev pub lengths_and_bare : List RawImm → ℕ → List RawImm × ℕ
lengths_and_bare xs bare = (xs, bare)

-- ("[" imm "]")* ("[" "]")*
unfoldable pub later_lengths : Grammar (List RawImm × ℕ)
later_lengths = plain lengths_and_bare before_length element brackets

-- "newmultiarray" "(" type ")" ("[" imm "]")+ ("[" "]")*
abbrev pub multi : RawType → RawImm → List RawImm × ℕ → RawRhs
multi ty x rest = sides.NewMulti (record { ty = ty; lengths = x ∷ rest.0; bare = rest.1 })

unfoldable pub new_multi : Grammar RawRhs
new_multi = nothing multi <* sign kinds.Newmultiarray <* sign kinds.OpenParen <*> ty <* sign kinds.CloseParen <*> element <*> later_lengths

-- rhs = imm | "(" type ")" imm | local "." fieldsig | fieldsig | local "[" imm "]" | "new" name
--     | "newarray" "(" type ")" "[" imm "]" | "newmultiarray" "(" type ")" ("[" imm "]")+ ("[" "]")*
--     | imm "instanceof" type | "lengthof" imm | "neg" imm | imm binop imm | call
unfoldable pub local_rhs : Grammar RawRhs
local_rhs = given (λ x r. r) (token plain_names) behind_local

unfoldable pub handle_rhs : Grammar RawRhs
handle_rhs = given (λ x r. r) (sign kinds.Handle) behind_handle

unfoldable pub constant_rhs : Grammar RawRhs
constant_rhs = given (λ x r. r) constant behind_operand

unfoldable pub new_object : Grammar RawRhs
new_object = nothing sides.New <* sign kinds.New <*> name

unfoldable pub length_of : Grammar RawRhs
length_of = nothing sides.Length <* sign kinds.Lengthof <*> imm

unfoldable pub negated : Grammar RawRhs
negated = nothing sides.Neg <* sign kinds.Neg <*> imm

unfoldable pub static_load : Grammar RawRhs
static_load = nothing sides.LoadStatic <*> field_sig

unfoldable pub called : Grammar RawRhs
called = nothing sides.Call <*> call

unfoldable pub rhs : Grammar RawRhs
rhs = either local_rhs (either handle_rhs (either constant_rhs (either cast (either static_load
    (either new_object (either new_array (either new_multi (either length_of (either negated called)))))))))

-- Statements

-- behind ":=": "@" "this" ":" type, "@" "parameterN" ":" type, or "@" "caughtexception"; a number above 254 is one too many
unfoldable pub this_given : Grammar RawGiven
this_given = nothing givens.This <* sign kinds.This <* sign kinds.Colon <*> ty

unfoldable pub param_given : Grammar RawGiven
param_given = nothing givens.Param <*> sign kinds.Parameter <* sign kinds.Colon <*> ty

unfoldable pub caught_given : Grammar RawGiven
caught_given = nothing (λ t. givens.Caught) <*> sign kinds.Caughtexception

unfoldable pub given_value : Grammar RawGiven
given_value = sign kinds.At *> either this_given (either param_given (either caught_given (refused too_many (kinds.HighParameter ∷ []))))

-- "=" imm
abbrev pub stored : Grammar RawImm
stored = sign kinds.Equals *> imm

-- behind a local, with what it becomes: ":=" and a value, "=" rhs, "." fieldsig "=" imm, "[" imm "]" "=" imm
unfoldable pub identity : Lexeme → Grammar RawStmt
identity x = nothing (λ g. stmts.Identity x g) <* sign kinds.ColonEquals <*> given_value

unfoldable pub assign : Lexeme → Grammar RawStmt
assign x = nothing (λ r. stmts.Assign x r) <* sign kinds.Equals <*> rhs

unfoldable pub store_field : Lexeme → Grammar RawStmt
store_field x = nothing (λ f v. stmts.StoreField x f v) <* sign kinds.Dot <*> field_sig <*> stored

unfoldable pub store_element : Lexeme → Grammar RawStmt
store_element x = nothing (λ i v. stmts.StoreElement x i v) <*> element <*> stored

unfoldable pub local_stmt : Lexeme → Grammar RawStmt
local_stmt x = either (identity x) (either (assign x) (either (store_field x) (store_element x))) <* sign kinds.Semicolon

-- fieldsig "=" imm ";"
unfoldable pub store_static : Grammar RawStmt
store_static = nothing (λ f v. stmts.StoreStatic f v) <*> field_sig <*> stored <* sign kinds.Semicolon

-- call ";"
unfoldable pub call_stmt : Grammar RawStmt
call_stmt = nothing stmts.Call <*> call <* sign kinds.Semicolon

-- "goto" label ";"
abbrev pub jump : Grammar Lexeme
jump = sign kinds.Goto *> name <* sign kinds.Semicolon

-- "if" imm cond imm "goto" label ";"
unfoldable pub if_stmt : Grammar RawStmt
if_stmt = nothing (λ left cond right target. stmts.If left cond right target) <* sign kinds.If <*> imm <*> token conditions <*> imm <*> jump

unfoldable pub goto_stmt : Grammar RawStmt
goto_stmt = nothing stmts.Goto <*> jump

-- "case" number ":" "goto" label ";"
unfoldable pub case : Grammar RawCase
case = nothing (λ value target. record { value = value; target = target }) <* sign kinds.Case <*> sign kinds.Number <* sign kinds.Colon <*> jump

unfoldable pub cases : Grammar (List RawCase)
cases = plain (λ xs end. xs) (((kinds.Case ∷ []) ∷ []) ∷ []) case ends

-- [";"]
abbrev pub maybe_semicolon : Grammar (Unit {0})
maybe_semicolon = either (sign kinds.Semicolon *> ends) ends

-- switch "(" imm ")" "{" ("case" number ":" "goto" label ";")* "default" ":" "goto" label ";" "}" [";"]
abbrev pub switched : Lexeme → RawImm → List RawCase → Lexeme → RawStmt
switched word key cases default = stmts.Switch (record { word = word; key = key; cases = cases; default = default })

unfoldable pub switch_stmt : Grammar RawStmt
switch_stmt = nothing switched <*> token switches <* sign kinds.OpenParen <*> imm <* sign kinds.CloseParen <* sign kinds.OpenBrace <*> cases
    <* sign kinds.Default <* sign kinds.Colon <*> jump <* sign kinds.CloseBrace <* maybe_semicolon

-- "return" [imm] ";"
unfoldable pub returned : Grammar (Option RawImm)
returned = either (nothing Some <*> imm) (nothing None)

unfoldable pub return_stmt : Grammar RawStmt
return_stmt = nothing stmts.Return <* sign kinds.Return <*> returned <* sign kinds.Semicolon

-- "throw" imm ";", "nop" ";", "entermonitor" imm ";", "exitmonitor" imm ";"
unfoldable pub throw_stmt : Grammar RawStmt
throw_stmt = nothing stmts.Throw <* sign kinds.Throw <*> imm <* sign kinds.Semicolon

unfoldable pub nop_stmt : Grammar RawStmt
nop_stmt = nothing (λ t. stmts.Nop) <*> sign kinds.Nop <* sign kinds.Semicolon

unfoldable pub enter_stmt : Grammar RawStmt
enter_stmt = nothing stmts.Enter <* sign kinds.Entermonitor <*> imm <* sign kinds.Semicolon

unfoldable pub exit_stmt : Grammar RawStmt
exit_stmt = nothing stmts.Exit <* sign kinds.Exitmonitor <*> imm <* sign kinds.Semicolon

-- a statement that doesn't begin with a local; "ret" and "breakpoint" are refused
unfoldable pub word_stmt : Grammar RawStmt
word_stmt = either store_static (either call_stmt (either if_stmt (either goto_stmt (either switch_stmt (either return_stmt
    (either throw_stmt (either nop_stmt (either enter_stmt (either exit_stmt (refused unsupported (kinds.Ret ∷ kinds.Breakpoint ∷ [])))))))))))

-- stmt = local local_stmt | word_stmt
unfoldable pub stmt : Grammar RawStmt
stmt = either (given (λ x s. s) name local_stmt) word_stmt

-- Bodies

-- label ":"
abbrev pub label : Grammar Lexeme
label = both (λ x colon. x) name (sign kinds.Colon)

-- label ":" | stmt
unfoldable pub behind_name : Lexeme → Grammar RawItem
behind_name x = either (nothing (λ colon. items.Label x) <*> sign kinds.Colon) (nothing items.Stmt <*> local_stmt x)

unfoldable pub item : Grammar RawItem
item = either (given (λ x i. i) name behind_name) (nothing items.Stmt <*> word_stmt)

-- catch = "catch" name "from" label "to" label "with" label ";"
unfoldable pub catch : Grammar RawCatch
catch = nothing (λ class from to with. record { class = class; from = from; to = to; with = with })
    <* sign kinds.Catch <*> name <* sign kinds.From <*> name <* sign kinds.To <*> name <* sign kinds.With <*> name <* sign kinds.Semicolon

unfoldable pub catches : Grammar (List RawCatch)
catches = plain (λ xs end. xs) (((kinds.Catch ∷ []) ∷ []) ∷ []) catch ends

abbrev pub before_item : Look
before_item = ((names ++ statement_words) ∷ []) ∷ []

-- (label ":" | stmt)*
unfoldable pub later_items : Grammar (List RawItem)
later_items = plain (λ xs end. xs) before_item item ends

abbrev pub before_label : Look
before_label = (names ∷ (kinds.Colon ∷ []) ∷ []) ∷ []

abbrev pub front_items : RawStmt → List RawItem → RawStmt × List RawItem
front_items s items = (s, items)

abbrev pub coded : List Lexeme → RawStmt × List RawItem → RawCode
coded labels front = record { labels = labels; front = front.0; rest = front.1 }

-- (label ":" | stmt)*, with at least one statement: (label ":")* stmt (label ":" | stmt)*
unfoldable pub code : Grammar RawCode
code = plain coded before_label label (both front_items stmt later_items)

-- a name, where there is room for one
abbrev pub slot : ℕ → Grammar Lexeme
slot zero = refused too_many names
slot (suc room) = name

abbrev pub next_slot : ℕ → Grammar Lexeme
next_slot room = sign kinds.Comma *> slot room

-- ("," name)*, in this room
unfoldable pub later_slots : ℕ → Grammar (List Lexeme)
later_slots room = many (λ xs end. xs) (((kinds.Comma ∷ []) ∷ []) ∷ []) next_slot (λ n x. pred n) room ends

-- name ("," name)*, in this room
unfoldable pub slots : ℕ → Grammar (List Lexeme)
slots room = both (λ x xs. x ∷ xs) (slot room) (later_slots (pred room))

abbrev pub declared_as : RawType → List Lexeme → RawDecl
declared_as ty names = record { ty = ty; names = names }

-- decl = type name ("," name)* ";", in this room
unfoldable pub decl : ℕ → Grammar RawDecl
decl room = both declared_as ty (slots room <* sign kinds.Semicolon)

abbrev pub before_decl : Look
before_decl = (primitives ∷ []) ∷ (names ∷ names ∷ []) ∷ (names ∷ (kinds.OpenBracket ∷ []) ∷ (kinds.CloseBracket ∷ []) ∷ []) ∷ []

abbrev pub code_catches : RawCode → List RawCatch → RawCode × List RawCatch
code_catches code catches = (code, catches)

abbrev pub bodied : List RawDecl → RawCode × List RawCatch → RawBody
bodied decls rest = record { decls = decls; code = rest.0; catches = rest.1 }

-- how many names there is room for behind a declaration
abbrev pub room_behind : ℕ → RawDecl → ℕ
room_behind room d = room - length d.names

-- body = "{" decl* (label ":" | stmt)* catch* "}", with at least one statement, and at most 65,535 locals
unfoldable pub block : Grammar RawBody
block = many bodied before_decl decl room_behind most_locals (both code_catches code catches)

unfoldable pub body : Grammar RawBody
body = sign kinds.OpenBrace *> block <* sign kinds.CloseBrace

-- Members and classes

abbrev pub param_slot : ℕ → Grammar RawType
param_slot zero = refused too_many types
param_slot (suc room) = ty

abbrev pub next_param : ℕ → Grammar RawType
next_param room = sign kinds.Comma *> param_slot room

unfoldable pub later_params : Grammar (List RawType)
later_params = many (λ xs end. xs) (((kinds.Comma ∷ []) ∷ []) ∷ []) next_param (λ n x. pred n) (pred most_params) ends

-- [types], of a heading: at most 255
unfoldable pub heading_params : Grammar (List RawType)
heading_params = either (both (λ x xs. x ∷ xs) ty later_params) (nothing [])

-- ["throws" names]
unfoldable pub throws : Grammar (List Lexeme)
throws = either (sign kinds.Throws *> several_names) (nothing [])

-- ";" | body
unfoldable pub body_or_none : Grammar (Option RawBody)
body_or_none = either (nothing (λ end. None) <*> sign kinds.Semicolon) (nothing Some <*> body)

-- a word that may be a modifier where a word follows
abbrev pub modifier : Grammar Lexeme
modifier = token (modifiers ++ kinds.Further ∷ [])

abbrev pub typed_name : Lexeme → ℕ → Lexeme → RawType × Lexeme
typed_name base dims name = (typed base dims, name)

-- behind the base of a type: ("[" "]")* anyname; behind a word that would be a modifier where a word follows, one pair at least
abbrev pub plain_rest : Grammar (Lexeme → RawType × Lexeme)
plain_rest = both (λ dims name base. typed_name base dims name) brackets any_name

abbrev pub far_tail : Grammar (Lexeme → RawType × Lexeme)
far_tail = both (λ dims name base. typed_name base (suc dims) name) brackets any_name

abbrev pub far_rest : Grammar (Lexeme → RawType × Lexeme)
far_rest = bracket_pair *> far_tail

abbrev pub put : Lexeme → (Lexeme → RawType × Lexeme) → RawType × Lexeme
put base f = f base

-- type anyname
unfoldable pub member_type : Grammar (RawType × Lexeme)
member_type = either (both put (token sure_types) plain_rest) (both put (sign kinds.Further) far_rest)

abbrev pub headed : List Lexeme → RawType × Lexeme → RawHead
headed modifiers rest = record { modifiers = modifiers; ty = rest.0; name = rest.1 }

abbrev pub before_modifier : Look
before_modifier = (modifiers ∷ []) ∷ ((kinds.Further ∷ []) ∷ words ∷ []) ∷ []

-- modifier* type anyname
unfoldable pub head : Grammar RawHead
head = plain headed before_modifier modifier member_type

unfoldable pub method_rest : RawHead → Grammar RawMember
method_rest h = nothing (λ params throws body. members_are.Method h (record { params = params; throws = throws; body = body }))
    <* sign kinds.OpenParen <*> heading_params <* sign kinds.CloseParen <*> throws <*> body_or_none

unfoldable pub behind_head : RawHead → Grammar RawMember
behind_head h = either (nothing (λ end. members_are.Field h) <*> sign kinds.Semicolon) (method_rest h)

-- member = modifier* type anyname ";" | modifier* type anyname "(" [types] ")" ["throws" names] (";" | body)
unfoldable pub member : Grammar RawMember
member = given (λ h m. m) head behind_head

-- ["implements" names]
unfoldable pub implements : Grammar (List Lexeme)
implements = either (sign kinds.Implements *> several_names) (nothing [])

-- ["extends" name]
unfoldable pub extends_one : Grammar (List Lexeme)
extends_one = either (nothing (λ x. x ∷ []) <* sign kinds.Extends <*> name) (nothing [])

-- ["extends" names]
unfoldable pub extends_several : Grammar (List Lexeme)
extends_several = either (sign kinds.Extends *> several_names) (nothing [])

-- "class" name ["extends" name] ["implements" names]
unfoldable pub class_heading : Grammar RawHeading
class_heading = nothing (λ name extends implements. record { is_interface = false; name = name; extends = extends; implements = implements })
    <* sign kinds.Class <*> name <*> extends_one <*> implements

-- "interface" name ["extends" names] ["implements" names]
unfoldable pub interface_heading : Grammar RawHeading
interface_heading = nothing (λ name extends implements. record { is_interface = true; name = name; extends = extends; implements = implements })
    <* sign kinds.Interface <*> name <*> extends_several <*> implements

unfoldable pub heading : Grammar RawHeading
heading = either class_heading interface_heading

abbrev pub before_class_modifier : Look
before_class_modifier = ((modifiers ++ kinds.Further ∷ []) ∷ []) ∷ []

abbrev pub before_member : Look
before_member = ((modifiers ++ types) ∷ []) ∷ []

-- "{" member* "}"
unfoldable pub members : Grammar (List RawMember)
members = sign kinds.OpenBrace *> plain (λ xs end. xs) before_member member (sign kinds.CloseBrace)

abbrev pub heading_members : RawHeading → List RawMember → RawHeading × List RawMember
heading_members heading members = (heading, members)

abbrev pub classed : List Lexeme → RawHeading × List RawMember → RawClass
classed modifiers rest = record { modifiers = modifiers; heading = rest.0; members = rest.1 }

-- class = modifier* ("class" | "interface") name ["extends" names] ["implements" names] "{" member* "}"
unfoldable pub class : Grammar RawClass
class = plain classed before_class_modifier modifier (both heading_members heading members)

abbrev pub before_class : Look
before_class = ((modifiers ++ kinds.Further ∷ kinds.Class ∷ kinds.Interface ∷ []) ∷ []) ∷ []

-- file = class*
unfoldable pub file : Grammar (List RawClass)
file = plain (λ xs end. xs) before_class class ends
