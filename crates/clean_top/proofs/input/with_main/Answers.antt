use Rattle.std.proofs.lemmas.List.Elements.{All-push}
use Rattle.jimple_tree.specs.WellFormed.{IsWellFormed}
use Rattle.clean_top.proofs.input.with_main.Goals as goal

pub returns-in_ok-push-in-Components-clause-well_formed : goal.returns-in_ok-push-in-Components-clause-well_formed
returns-in_ok-push-in-Components-clause-well_formed c =
    rw (c.from_vec.ensures, c.in_ok-push-in-Components.ensures.items, c.into_vec-all.ensures) (All-push IsWellFormed _ _ c.requires.well_formed c.in_ok-make-in-Components.ensures.well_formed)
