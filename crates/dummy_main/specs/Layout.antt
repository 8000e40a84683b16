-- How the generated class is laid out (docs/FORMATS.md, "The generated main method"). What it means is said without this (Means).
use Rattle.std.specs.Prelude.{◌+◌, ℕ, false, List, [], ◌∷◌, ◌++◌, map, length, codes, decimal, Some, None}
use Rattle.clean_base.specs.declared.ids.LocalId.{LocalId}
use Rattle.jimple_tree.specs.declared.tree.Body.{Body}
use Rattle.jimple_tree.specs.declared.tree.Class.{Class}
use Rattle.jimple_tree.specs.declared.tree.Cond.TheVariants as comp
use Rattle.jimple_tree.specs.declared.tree.Imm.{Imm}
use Rattle.jimple_tree.specs.declared.tree.Imm.TheVariants as imm
use Rattle.jimple_tree.specs.declared.tree.Invoke.{Invoke}
use Rattle.jimple_tree.specs.declared.tree.InvokeKind.{InvokeKind}
use Rattle.jimple_tree.specs.declared.tree.InvokeKind.TheVariants as kind
use Rattle.jimple_tree.specs.declared.tree.Local.{Local}
use Rattle.jimple_tree.specs.declared.tree.Method.{Method}
use Rattle.jimple_tree.specs.declared.tree.Place.TheVariants as place
use Rattle.jimple_tree.specs.declared.tree.Rhs.TheVariants as rhs
use Rattle.jimple_tree.specs.declared.tree.Sig.{Sig}
use Rattle.jimple_tree.specs.declared.tree.Stmt.{Stmt}
use Rattle.jimple_tree.specs.declared.tree.Stmt.TheVariants as stmt
use Rattle.dummy_main.specs.declared.component.Component.{Component}
use Rattle.dummy_main.specs.declared.component.ComponentKind.{ComponentKind}
use Rattle.dummy_main.specs.declared.component.ComponentKind.TheVariants.{Activity, Service, Receiver, Provider}
use Rattle.dummy_main.specs.declared.callback.Callback.{Callback}
use Rattle.dummy_main.specs.declared.callback.Callback.TheVariants.{Init, ActivityCreate, Start, Resume, Pause, Stop, Restart, ActivityDestroy, ServiceCreate, StartCommand, Bind, Unbind, Rebind, ServiceDestroy, Receive, ProviderCreate, Query, Insert, Update, Delete, GetType}
use Rattle.dummy_main.specs.declared.callback.TypeName.{TypeName}
use Rattle.dummy_main.specs.declared.callback.TypeName.TheVariants.{Void, Int}
use Rattle.dummy_main.specs.declared.line.Line.{Line}
use Rattle.dummy_main.specs.declared.line.Line.TheVariants.{Makes, Inits, Calls, Chooses, Jumps, Leaves}
use Rattle.dummy_main.specs.Lifecycle.{Heading, heading, type_of, local_of, sig_with}

-- the lines of each kind's block
abbrev pub lines : ComponentKind → List Line
lines Activity =
    Makes ∷ Inits ∷ Calls ActivityCreate ∷ Calls Start ∷ Calls Resume ∷ Calls Pause ∷ Chooses 4 ∷ Calls Stop ∷ Chooses 11
    ∷ Calls Restart ∷ Jumps 3 ∷ Calls ActivityDestroy ∷ Leaves ∷ []
lines Service =
    Makes ∷ Inits ∷ Calls ServiceCreate ∷ Chooses 8 ∷ Chooses 10 ∷ Chooses 12 ∷ Chooses 14 ∷ Jumps 16
    ∷ Calls StartCommand ∷ Jumps 3 ∷ Calls Bind ∷ Jumps 3 ∷ Calls Unbind ∷ Jumps 3 ∷ Calls Rebind ∷ Jumps 3
    ∷ Calls ServiceDestroy ∷ Leaves ∷ []
lines Receiver = Makes ∷ Inits ∷ Calls Receive ∷ Leaves ∷ []
lines Provider =
    Makes ∷ Inits ∷ Calls ProviderCreate ∷ Chooses 9 ∷ Chooses 11 ∷ Chooses 13 ∷ Chooses 15 ∷ Chooses 17 ∷ Jumps 19
    ∷ Calls Query ∷ Jumps 3 ∷ Calls Insert ∷ Jumps 3 ∷ Calls Update ∷ Jumps 3 ∷ Calls Delete ∷ Jumps 3 ∷ Calls GetType ∷ Jumps 3
    ∷ Leaves ∷ []

-- how many statements a block has
abbrev pub size : ComponentKind → ℕ
size Activity = 13
size Service = 18
size Receiver = 4
size Provider = 20

abbrev pub literal : List ℕ → Imm
literal bytes = imm.Literal bytes

abbrev pub i0 : LocalId
i0 = record { 0 = 0 }

-- an argument: 0 for an int, null for all else
abbrev pub argument : TypeName → Imm
argument Int = literal (codes "0")
argument _ = literal (codes "null")

abbrev pub call_with : InvokeKind → ℕ → List ℕ → Heading → Invoke
call_with how j class m = record { kind = how; base = Some (local_of j); sig = sig_with class m; args = map argument m.params }

abbrev pub call_of : InvokeKind → ℕ → List ℕ → Callback → Invoke
call_of how j class callback = call_with how j class (heading callback)

-- if i0 == 0 goto target
abbrev pub chooses : ℕ → Stmt
chooses target = stmt.If (imm.Local i0) comp.Eq (literal (codes "0")) target

-- the statement of a line in the block of component j, which begins at the place p
abbrev pub stmt_of : ℕ → List ℕ → ℕ → Line → Stmt
stmt_of j class p Makes = stmt.Assign (place.Local (local_of j)) (rhs.New class)
stmt_of j class p Inits = stmt.Call (call_of kind.Special j class Init)
stmt_of j class p (Calls c) = stmt.Call (call_of kind.Virtual j class c)
stmt_of j class p (Chooses k) = chooses (p + k)
stmt_of j class p (Jumps k) = stmt.Goto (p + k)
stmt_of j class p Leaves = stmt.Goto 1

abbrev pub block : ℕ → ℕ → Component → List Stmt
block j p c = map (stmt_of j c.name p) (lines c.kind)

-- a choice for each component, whose blocks begin at p
abbrev pub choices : ℕ → List Component → List Stmt
choices p [] = []
choices p (c ∷ cs) = chooses p ∷ choices (p + size c.kind) cs

-- the blocks of the components, numbered from j on
abbrev pub blocks : ℕ → ℕ → List Component → List Stmt
blocks j p [] = []
blocks j p (c ∷ cs) = block j p c ++ blocks (j + 1) (p + size c.kind) cs

abbrev pub first : Stmt
first = stmt.Assign (place.Local i0) (rhs.Use (literal (codes "0")))

abbrev pub statements : List Component → List Stmt
statements cs = first ∷ (choices (length cs + 2) cs ++ stmt.Return None ∷ blocks 0 (length cs + 2) cs)

-- the local of component j
abbrev pub local_at : ℕ → List ℕ → Local
local_at j class = record { ty = record { base = class; dims = 0 }; name = codes "r" ++ decimal j }

-- those of the components, numbered from j on
abbrev pub locals_from : ℕ → List Component → List Local
locals_from j [] = []
locals_from j (c ∷ cs) = local_at j c.name ∷ locals_from (j + 1) cs

abbrev pub body_of : List Component → Body
body_of cs = record { locals = record { ty = type_of Int; name = codes "i0" } ∷ locals_from 0 cs; stmts = statements cs; catches = [] }

-- the signature of the generated method
abbrev pub main_sig : Sig
main_sig = record { class = codes "dummyMainClass"; result = type_of Void; name = codes "dummyMainMethod"; params = [] }

abbrev pub main_of : List Component → Method
main_of cs = record { modifiers = codes "public" ∷ codes "static" ∷ []; result = main_sig.result; name = main_sig.name; params = main_sig.params; throws = []; body = Some (body_of cs) }

abbrev pub class_of : List Component → Class
class_of cs = record {
  modifiers = codes "public" ∷ [];
  is_interface = false;
  name = main_sig.class;
  extends = codes "java.lang.Object" ∷ [];
  implements = [];
  fields = [];
  methods = main_of cs ∷ [];
}
