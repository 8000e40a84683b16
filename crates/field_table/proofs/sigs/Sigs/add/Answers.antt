use Rattle.std.proofs.Common.{◌≡◌, ◌++◌, ◌∷◌, [], List, ap, sym, subst, ◌∙◌}
use Rattle.std.proofs.lemmas.Result.{on_ok_weaker}
use Rattle.field_table.specs.Fields.{signature}
use Rattle.field_table.specs.Sigs.{AreSigs, IsKey}
use Rattle.field_table.proofs.Keys.{some_has, none_lacks, sig_known, sig_new, widened, went_in, new_key}
use Rattle.jimple_tree.specs.declared.tree.FieldSig.{FieldSig}
use Rattle.field_table.proofs.sigs.Sigs.add.Goals as goal

pub returns-then-is_some : goal.returns-then-is_some
returns-then-is_some c =
    let sig = signature c.args.class.now c.args.ty.now c.args.name.now in
    sym (sig_known c.args.self.now sig (some_has c.args.self.now sig c.place.result c.place.ensures (sym c.is_some.ensures ∙ c.if-is_some.true)))

pub invariant_of-self : goal.invariant_of-self
invariant_of-self c = widened c.self.inside.names.keys c.add_key.new.names.keys c.self.inside.keys.keys c.self.inside.items.items c.self.invariant c.add_key.ensures.distinct c.add_key.ensures.kept

pub invariant_of-self-in_err-sig : goal.invariant_of-self-in_err-sig
invariant_of-self-in_err-sig c = widened c.self.inside.names.keys c.add_key.new.names.keys c.self.inside.keys.keys c.self.inside.items.items c.self.invariant c.add_key.ensures.distinct c.add_key.ensures.kept

pub push-requires : goal.push-requires
push-requires c =
    let sig = signature c.args.class.now c.args.ty.now c.args.name.now in
    let wide = c.add_key.new.names.keys in
    let lacks = none_lacks c.args.self.now sig c.place.result c.place.ensures (sym c.is_some.ensures ∙ c.if-is_some.false) in
    let are : AreSigs wide c.self.inside.keys.keys c.args.self.now =
    subst (λ (ss : List FieldSig). AreSigs wide c.self.inside.keys.keys ss) c.self.view_is (widened c.self.inside.names.keys wide c.self.inside.keys.keys c.self.inside.items.items c.self.invariant c.add_key.ensures.distinct c.add_key.ensures.kept) in
    new_key wide c.self.inside.keys.keys c.args.self.now are c.in_ok-key.key sig c.in_ok-key.ensures.key lacks

pub invariant_of-self-2 : goal.invariant_of-self-2
invariant_of-self-2 c =
    let wide = c.add_key.new.names.keys in
    went_in c.self.inside.names.keys wide c.self.inside.keys.keys c.self.inside.items.items c.self.invariant c.add_key.ensures.distinct c.add_key.ensures.kept c.in_ok-key.key c.in_ok-sig.sig
    (subst (IsKey wide c.in_ok-key.key) (sym c.in_ok-sig.ensures) c.in_ok-key.ensures.key) c.push.result c.push.new.keys.keys c.push.new.items.items c.push.ensures.key c.push.ensures.item c.push.ensures.same_keys c.push.ensures.same_items

pub returns : goal.returns
returns c =
    let sig = signature c.args.class.now c.args.ty.now c.args.name.now in
    let lacks = none_lacks c.args.self.now sig c.place.result c.place.ensures (sym c.is_some.ensures ∙ c.if-is_some.false) in
    on_ok_weaker c.push.result
    (λ (e : c.push.new.items.items ≡ c.self.inside.items.items ++ c.in_ok-sig.sig ∷ []). e ∙ ap (λ (s : FieldSig). c.self.inside.items.items ++ s ∷ []) c.in_ok-sig.ensures ∙ ap (λ (ss : List FieldSig). ss ++ sig ∷ []) c.self.view_is ∙ sym (sig_new c.args.self.now sig lacks))
    c.push.ensures.item
