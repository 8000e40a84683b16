use Rattle.std.proofs.Common.{◌≡◌, ◌↔◌, ℕ, List, Contains, Option, None, Some, refl, sym, subst, arith}
use Rattle.clean_base.specs.Lists.{At}
use Rattle.jimple_tree.specs.declared.tree.Method.{Method}
use Rattle.class_table.specs.Hierarchy.{class_names}
use Rattle.class_table.specs.Index.{IsMethodAt}
use Rattle.class_table.proofs.Exact.{found_declared, none_declared, no_number, past_declared, unknown_declared, own_there}
use Rattle.class_table.proofs.members.find_method.Goals as goal

pub returns-in_default : goal.returns-in_default
returns-in_default c =
    no_number None refl (unknown_declared c.args.classes.now c.requires.formed c.requires.table.names c.args.sig.now (λ has. c.in_default.ensures (subst (λ (ks : List (List ℕ)). Contains ks c.args.sig.now.class) (sym c.requires.names) has)))

pub returns-then-classes-class : goal.returns-then-classes-class
returns-then-classes-class c =
    let named : At (class_names c.args.classes.now) c.in-Some.number c.args.sig.now.class = subst (λ (ks : List (List ℕ)). At ks c.in-Some.number c.args.sig.now.class) c.requires.names c.in-Some.ensures in
    no_number None refl (past_declared c.args.classes.now c.requires.formed c.requires.table.names c.args.sig.now c.in-Some.number named (omega arith))

pub returns-in_default-find : goal.returns-in_default-find
returns-in_default-find c =
    let named : At (class_names c.args.classes.now) c.in-Some.number c.args.sig.now.class = subst (λ (ks : List (List ℕ)). At ks c.in-Some.number c.args.sig.now.class) c.requires.names c.in-Some.ensures in
    let here : At c.args.classes.now c.in-Some.number c.index-classes-class.result = ((omega arith), sym c.index-classes-class.is) in
    no_number None refl (none_declared c.args.classes.now c.requires.formed c.requires.table.names c.in-Some.number c.index-classes-class.result c.args.sig.now c.find.result c.in_default-find.is here named c.find.ensures)

pub number-requires : goal.number-requires
number-requires c =
    let cs = c.args.classes.now in
    let members = c.args.members.now in
    let here : At cs c.in-Some.number c.index-classes-class.result = ((omega arith), sym c.index-classes-class.is) in
    let count = c.requires.members.owns.counted in
    let own : At members.classes.items c.in-Some.number c.index.result.now = ((let below = here.0 in omega (arith, count, below)), sym c.index.ensures) in
    let method = (c.find.ensures c.in-Some-find.method).0 c.in-Some-find.is in
    own_there cs members c.in-Some.number c.index-classes-class.result c.index.result.now c.in-Some-find.method c.requires.members here own method.1.0.0

pub returns : goal.returns
returns c =
    let cs = c.args.classes.now in
    let members = c.args.members.now in
    let class = c.index-classes-class.result in
    let named : At (class_names cs) c.in-Some.number c.args.sig.now.class = subst (λ (ks : List (List ℕ)). At ks c.in-Some.number c.args.sig.now.class) c.requires.names c.in-Some.ensures in
    let here : At cs c.in-Some.number class = ((omega arith), sym c.index-classes-class.is) in
    let count = c.requires.members.owns.counted in
    let own : At members.classes.items c.in-Some.number c.index.result.now = ((let below = here.0 in omega (arith, count, below)), sym c.index.ensures) in
    let number = c.number.ensures c.index.result.now own in
    found_declared cs c.requires.formed c.requires.table.names c.in-Some.number class c.args.sig.now c.in-Some-find.method c.number.result here named
    (subst (λ (at : Option ℕ). (other : ℕ) → (at ≡ Some other) ↔ ((m : Method) × IsMethodAt class c.args.sig.now other m)) c.in-Some-find.is c.find.ensures)
    (λ m at. (c.requires.members.owns.each c.in-Some.number class c.index.result.now here own).numbers.each c.in-Some-find.method m c.number.result at number)
