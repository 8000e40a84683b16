use Rattle.std.proofs.Common.{◌≡◌, List, All, drop, flat_map}
use Rattle.clean_stage.specs.Stage.{Leaves, every}
use Rattle.jimple_tree.specs.WellFormed.{IsWellFormed}
use Rattle.jimple_tree.specs.declared.tree.Class.{Class}
use Rattle.clean_top.specs.Meaning.{classes_of}
use Rattle.clean_top.proofs.input.read_every_class.Given as goal

abbrev pub invariant-loop-text : goal.invariant-loop-text
invariant-loop-text l = record {
  files : List (List Class);
  leaves : Leaves (every classes_of l.texts) (every classes_of (drop l.text-index l.texts)) files;
  are : l.classes.items ≡ flat_map (λ (cs : List Class). cs) files;
  formed : All IsWellFormed l.classes.items;
}
