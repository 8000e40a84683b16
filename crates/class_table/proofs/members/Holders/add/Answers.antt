use Rattle.std.proofs.Common.{◌≡◌, ◌∙◌, ℕ, List, length, ap, sym, subst, arith}
use Rattle.clean_base.specs.Lists.{At}
use Rattle.jimple_tree.specs.declared.tree.Class.{Class}
use Rattle.jimple_tree.specs.declared.tree.Method.{Method}
use Rattle.class_table.specs.Members.{AreHolders}
use Rattle.class_table.specs.declared.members.Holders.{Holders}
use Rattle.class_table.proofs.Holding.{holders_class, holders_more}
use Rattle.class_table.proofs.members.Holders.add.Goals as goal

pub loop-method-init : goal.loop-method-init
loop-method-init c = subst (λ (n : ℕ). AreHolders c.args.classes.now n c.args.self.now) (omega arith) c.requires.before

pub loop-method-preserved : goal.loop-method-preserved
loop-method-preserved c =
    let class = c.index-classes-at.result in
    let method = c.method-item.result in
    let i = c.loop-method.method-index in
    let here : At c.args.classes.now c.args.at class = (c.requires.class, sym c.index-classes-at.is) in
    let all : c.as_slice-method-items.result.now ≡ class.methods = c.as_slice-method-items.ensures ∙ ap (λ (x : Class). x.methods) (sym c.index-classes-at.is) in
    let there : At class.methods i method = subst (λ (ms : List Method). At ms i method) all (c.loop-method-test.true, sym c.method-item.is) in
    let new : Holders = record { names = c.add.new.self; owners = c.push.new.self } in
    let count = c.len.ensures in
    let long = c.loop-method.self.owners.ok.0 in
    holders_more c.args.classes.now c.args.at class i method c.loop-method.self new c.len.result here there (omega (arith, count, long)) c.in_ok-add.ensures c.in_ok-push.ensures.items c.loop-method.invariant

pub returns : goal.returns
returns c =
    let class = c.index-classes-at.result in
    let here : At c.args.classes.now c.args.at class = (c.requires.class, sym c.index-classes-at.is) in
    let all : c.as_slice-method-items.result.now ≡ class.methods = c.as_slice-method-items.ensures ∙ ap (λ (x : Class). x.methods) (sym c.index-classes-at.is) in
    let past = c.loop-method-test.false in
    let end = c.loop-method.auto.method-index-end in
    let long = ap length all in
    holders_class c.args.classes.now c.args.at class c.loop-method.method-index c.loop-method.self here (omega (arith, past, end, long)) c.loop-method.invariant
