use Rattle.std.proofs.Common.{◌≡◌, ◌<◌, List, length, get_or, sym, subst, true≢false, ◌∙◌, arith}
use Rattle.clean_base.specs.Lists.{At}
use Rattle.jimple_tree.specs.declared.tree.Method.{Method}
use Rattle.class_table.specs.Firsts.{nowhere, here, later}
use Rattle.class_table.proofs.Callable.{past_lacks, none_lacks, other_lacks, this_has}
use Rattle.class_table.proofs.resolve.callable.Goals as goal

pub returns-then-classes-number : goal.returns-then-classes-number
returns-then-classes-number c =
    later (past_lacks c.args.classes.now c.requires.formed c.requires.table.names c.args.sig.now c.args.number c.requires.number (omega arith)) nowhere

pub returns-in_default : goal.returns-in_default
returns-in_default c =
    let at : At c.args.classes.now c.args.number c.index-classes-number.result = ((omega arith), sym c.index-classes-number.is) in
    later (none_lacks c.args.classes.now c.requires.formed c.requires.table.names c.args.sig.now c.args.number c.index-classes-number.result c.find.result c.requires.number at c.in_default.is c.find.ensures) nowhere

pub bounds-as_slice-method : goal.bounds-as_slice-method
bounds-as_slice-method c =
    let told = (c.find.ensures c.in-Some.method).0 c.in-Some.is in
    subst (λ (ms : List Method). c.in-Some.method < length ms) (sym c.as_slice.ensures) told.1.0.0

pub offset_bounds-as_slice-method : goal.offset_bounds-as_slice-method
offset_bounds-as_slice-method c =
    let told = (c.find.ensures c.in-Some.method).0 c.in-Some.is in
    let below : c.in-Some.method < length c.as_slice.result.now = subst (λ (ms : List Method). c.in-Some.method < length ms) (sym c.as_slice.ensures) told.1.0.0 in
    let room = c.as_slice.type_inv.1 in
    omega (arith, below, room)

pub returns-then-not-may_be_called : goal.returns-then-not-may_be_called
returns-then-not-may_be_called c =
    let told = (c.find.ensures c.in-Some.method).0 c.in-Some.is in
    let class = c.index-classes-number.result in
    let method = c.index-as_slice-method.result in
    let at : At c.args.classes.now c.args.number class = ((omega arith), sym c.index-classes-number.is) in
    let stands : At class.methods c.in-Some.method method = (told.1.0.0, subst (λ (ms : List Method). get_or ms c.in-Some.method method ≡ method) c.as_slice.ensures (sym c.index-as_slice-method.is)) in
    later (other_lacks c.args.classes.now c.requires.formed c.requires.table.names c.args.sig.now c.args.number class c.find.result c.in-Some.method method c.requires.number at c.in-Some.is c.find.ensures stands (λ may. true≢false (sym (c.may_be_called.ensures.1 may) ∙ c.if-not-may_be_called.true))) nowhere

pub returns : goal.returns
returns c =
    let told = (c.find.ensures c.in-Some.method).0 c.in-Some.is in
    let class = c.index-classes-number.result in
    let method = c.index-as_slice-method.result in
    let at : At c.args.classes.now c.args.number class = ((omega arith), sym c.index-classes-number.is) in
    let stands : At class.methods c.in-Some.method method = (told.1.0.0, subst (λ (ms : List Method). get_or ms c.in-Some.method method ≡ method) c.as_slice.ensures (sym c.index-as_slice-method.is)) in
    here (this_has c.args.classes.now c.requires.formed c.requires.table.names c.args.sig.now c.args.number class c.find.result c.in-Some.method method c.requires.number at c.in-Some.is c.find.ensures stands (c.may_be_called.ensures.0 c.if-not-may_be_called.false))
