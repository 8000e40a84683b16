use Rattle.std.proofs.Common.{List, subst}
use Rattle.field_table.specs.Fields.{signature}
use Rattle.field_table.specs.Sigs.{AreSigs}
use Rattle.field_table.proofs.Keys.{no_key, sig_place}
use Rattle.jimple_tree.specs.declared.tree.FieldSig.{FieldSig}
use Rattle.field_table.proofs.sigs.Sigs.place.Goals as goal

pub returns-in_default : goal.returns-in_default
returns-in_default c =
    let are : AreSigs c.self.inside.names.keys c.self.inside.keys.keys c.args.self.now = subst (λ (ss : List FieldSig). AreSigs c.self.inside.names.keys c.self.inside.keys.keys ss) c.self.view_is c.self.invariant in
    no_key c.self.inside.names.keys c.self.inside.keys.keys c.args.self.now are (signature c.args.class.now c.args.ty.now c.args.name.now) c.in_default.ensures

pub returns : goal.returns
returns c =
    let are : AreSigs c.self.inside.names.keys c.self.inside.keys.keys c.args.self.now = subst (λ (ss : List FieldSig). AreSigs c.self.inside.names.keys c.self.inside.keys.keys ss) c.self.view_is c.self.invariant in
    sig_place c.self.inside.names.keys c.self.inside.keys.keys c.args.self.now are c.in-Some.key (signature c.args.class.now c.args.ty.now c.args.name.now) c.get_index_of.result c.in-Some.ensures c.get_index_of.ensures.index c.get_index_of.ensures.found
