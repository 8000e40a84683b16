use Rattle.std.proofs.Common.{sym, subst}
use Rattle.std.proofs.lemmas.Result.{IfOk-weaker}
use Rattle.jimple_tree.specs.declared.tree.Class.{Class}
use Rattle.dummy_main.specs.Means.{IsMainOf}
use Rattle.jimple_tree.specs.WellFormed.{IsWellFormed}
use Rattle.dummy_main.proofs.Fits.{class_fits}
use Rattle.dummy_main.proofs.Made.{class_means}
use Rattle.dummy_main.proofs.generate.make.Goals as goal

pub returns-clause-means : goal.returns-clause-means
returns-clause-means c = IfOk-weaker c.make_class.result _ _ (λ class e. subst (λ (k : Class). IsMainOf c.args.components.now k) (sym e) (class_means c.args.components.now)) c.make_class.ensures

pub returns-clause-well_formed : goal.returns-clause-well_formed
returns-clause-well_formed c = IfOk-weaker c.make_class.result _ _ (λ class e. subst IsWellFormed (sym e) (class_fits c.args.components.now c.requires)) c.make_class.ensures
