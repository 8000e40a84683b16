use Rattle.std.proofs.Common.{List, subst, sym}
use Rattle.clean_base.specs.Lists.{IsDistinct}
use Rattle.field_table.proofs.Apart.{declared_apart, declared_whole}
use Rattle.jimple_tree.specs.declared.tree.FieldSig.{FieldSig}
use Rattle.field_table.proofs.declared.declared_in.Goals as goal

pub returns-clause-sigs : goal.returns-clause-sigs
returns-clause-sigs c = declared_whole c.args.classes.now c.requires.names c.requires.formed c.loop-class.class-index c.loop-class-test.false c.loop-class.sigs c.loop-class.invariant

pub returns-clause-distinct : goal.returns-clause-distinct
returns-clause-distinct c =
    let is = declared_whole c.args.classes.now c.requires.names c.requires.formed c.loop-class.class-index c.loop-class-test.false c.loop-class.sigs c.loop-class.invariant in
    subst (λ (l : List FieldSig). IsDistinct l) (sym is) (declared_apart c.args.classes.now c.requires.names c.requires.formed)
