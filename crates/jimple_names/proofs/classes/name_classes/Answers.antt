use Rattle.std.specs.Global.{Vec}
use Rattle.jimple_tree.specs.declared.tree.Class.{Class}
use Rattle.jimple_names.proofs.WellFormed.{formed_result}
use Rattle.jimple_names.proofs.classes.name_classes.Goals as goal

pub returns-clause-well_formed : goal.returns-clause-well_formed
returns-clause-well_formed c = formed_result c.args.bytes.now c.args.raw.now c.requires (λ (v : Vec Class). v.items) c.classes_of.result c.classes_of.ensures
