use Rattle.std.proofs.Common.{◌++◌, [], ◌∷◌}
use Rattle.std.proofs.lemmas.List.Elements.{All-append}
use Rattle.jimple_tree.specs.WellFormed.{IsWellFormed}
use Rattle.clean_stage.proofs.Stages.{next, stop_by, every_more, every_stops, every_ends, is_done}
use Rattle.clean_top.specs.Meaning.{classes_of}
use Rattle.clean_top.proofs.Appended.{one_list_more}
use Rattle.clean_top.proofs.input.read_every_class.Goals as goal

pub returns-in_err-read_text-clause-comes : goal.returns-in_err-read_text-clause-comes
returns-in_err-read_text-clause-comes c =
    stop_by _ _ c.in_err-read_text.field-0.0 c.from_residual.ensures.1
    (every_stops classes_of c.args.texts.now c.loop-text.text-index _ c.loop-text.invariant.leaves c.text-item.result c.loop-text-test.true c.text-item.is _ c.in_err-read_text.ensures.comes)

pub loop-text-preserved : goal.loop-text-preserved
loop-text-preserved c =
    let own = c.in_ok-read_text.field-0 in
    let kept = c.loop-text.invariant in
    let more = rw c.into_vec-own.ensures at c.in-Ok.ensures.items in
    record {
      files = kept.files ++ own ∷ [];
      leaves = every_more classes_of c.args.texts.now c.loop-text.text-index _ kept.leaves c.text-item.result c.loop-text-test.true c.text-item.is own c.in_ok-read_text.ensures.comes;
      are = one_list_more kept.files own _ _ kept.are more;
      formed = rw more (All-append IsWellFormed _ _ kept.formed c.in_ok-read_text.ensures.well_formed);
    }

pub returns-clause-comes : goal.returns-clause-comes
returns-clause-comes c =
    let all = every_ends classes_of c.args.texts.now c.loop-text.text-index _ c.loop-text.invariant.leaves c.loop-text-test.false in
    rw (c.from_vec.ensures, c.loop-text.invariant.are) (next _ _ all (is_done _))
