-- Statements, fields and locals as they are printed, and lines of a program's own leaks.
use Rattle.std.specs.Prelude.{◌≡◌, ◌-◌, ◌+◌, ◌≤◌, ℕ, zero, suc, List, [], map, slice_index_or, All, Contains, IsPermutation, Some, slice_get}
use Rattle.std.proofs.Common.{arith, ◌∙◌, ap, subst}
use Rattle.std.proofs.lemmas.List.{get_or-map, get_or_default}
use Rattle.std.proofs.lemmas.List.Elements.{All-map, All-weaker}
use Rattle.std.proofs.lemmas.List.Sorted.{All-permutation}
use Rattle.std.proofs.lemmas.Option.{get_or_from_slice_get, slice_get_within}
use Rattle.clean_base.specs.Lists.{At}
use Rattle.clean_base.specs.declared.ids.LocalId.{LocalId}
use Rattle.clean_base.specs.declared.ids.MethodId.{MethodId}
use Rattle.clean_base.specs.declared.ids.StmtId.{StmtId}
use Rattle.jimple_tree.specs.Printed.{field_text}
use Rattle.jimple_tree.specs.declared.tree.Class.{Class}
use Rattle.jimple_tree.specs.declared.tree.FieldSig.{FieldSig}
use Rattle.jimple_tree.specs.declared.tree.Local.{Local}
use Rattle.jimple_tree.specs.declared.tree.Method.{Method}
use Rattle.class_table.specs.Methods.{all_methods, IsNumber}
use Rattle.ifds_model.specs.declared.node.Leak.{Leak}
use Rattle.flow_rules.specs.Code.{Code, method_of}
use Rattle.flow_rules.specs.Own.{OwnLeak}
use Rattle.program_code.specs.App.{App, IsMethod, locals_of}
use Rattle.leak_report.specs.declared.report.Line.{Line}
use Rattle.leak_report.specs.Report.{field_text_at, line_of, local_text, place_of, OwnLine}

-- a statement's place is counted from the first one of its method
pub place_is : (code : Code) (s : StmtId) (place : ℕ) → IsMethod code (method_of code s)
    → ((first : StmtId) → At code.firsts (method_of code s).0 first → first.0 + place ≡ s.0) → place ≡ place_of code s
place_is code s place there tells =
    let none : StmtId = record { 0 = 0 } in
    let first = slice_index_or code.firsts (method_of code s).0 none in
    let counted = tells first (there, get_or_default code.firsts (method_of code s).0 first none there) in
    omega (arith, counted)

-- the fields that classes declare are numbered from 2 on
pub field_text_of : (sigs : List FieldSig) (n : ℕ) (sig : FieldSig) → 2 ≤ n → At sigs (n - 2) sig → field_text_at sigs n ≡ field_text sig
field_text_of sigs zero sig two is = absurd (omega (arith, two))
field_text_of sigs (suc zero) sig two is = absurd (omega (arith, two))
field_text_of sigs (suc (suc n)) sig two is =
    let back : suc (suc n) - 2 ≡ n = omega arith in
    let here : At sigs n sig = subst (λ (k : ℕ). At sigs k sig) back is in
    get_or-map field_text sigs n sig [] here.0 ∙ ap field_text here.1

-- what is got at a place is contained
pub got_contained : {X : Type 0} (xs : List X) (n : ℕ) (x : X) → slice_get xs n ≡ Some x → Contains xs x
got_contained xs n x got = (n, slice_get_within xs n x got, get_or_from_slice_get xs n x x got)

-- a local is printed by its name
pub local_text_of : (app : App) (m : MethodId) (x : LocalId) (c : Class) (method : Method) (local : Local) → IsNumber app.classes m c method → At (locals_of method) x.0 local → local_text app m x ≡ local.name
unfolding local_text
local_text_of app m x c method local numbered is =
    let own = λ (o : Class × Method). locals_of o.1 in
    let name = λ (l : Local). l.name in
    let locals = get_or-map own (all_methods app.classes) m.0 (c, method) [] numbered.0 ∙ ap own numbered.1 in
    ap (λ (ls : List Local). slice_index_or (map name ls) x.0 []) locals ∙ get_or-map name (locals_of method) x.0 local [] is.0 ∙ ap name is.1

-- the lines of a program's own leaks name its own statements, in any order
pub own_lines : (app : App) (leaks : List Leak) (lines : List Line) → All (OwnLeak app.code) leaks → IsPermutation (map (line_of app) leaks) lines → All (OwnLine app.code) lines
own_lines app leaks lines own moved =
    let each = All-weaker (OwnLeak app.code) (λ (l : Leak). OwnLine app.code (line_of app l)) (λ l o. record { sink = o.sink; source = o.source }) leaks own in
    All-permutation (OwnLine app.code) (map (line_of app) leaks) lines moved (All-map (OwnLine app.code) (line_of app) leaks each)
