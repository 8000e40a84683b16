use Rattle.std.proofs.Common.{◌≡◌, ℕ, List, [], Contains, get_or, refl, subst, ◌∙◌}
use Rattle.std.proofs.lemmas.List.{get_or_default, take_all}
use Rattle.std.proofs.lemmas.List.Elements.{Contains-get_or}
use Rattle.reach_rows.specs.Bits.{HasRows}
use Rattle.reach_rows.specs.Graphs.{row, Steps}
use Rattle.reach_rows.proofs.Closed.{row_more, sound_more}
use Rattle.reach_rows.proofs.Words.{grows_more}
use Rattle.reach_rows.proofs.closure.grow_row.Goals as goal

pub loop-b-preserved : goal.loop-b-preserved
loop-b-preserved c =
    let rows = c.args.rows.now in
    let w = c.args.width in
    let a = c.args.a in
    let nodes = c.as_slice-nodes.result.now in
    let i = c.loop-b.b-index in
    let b = get_or nodes i 0 in
    let old = c.args.bits.now in
    let mid = c.loop-b.bits in
    let new = c.take_in-added.new.bits in
    let are : nodes ≡ row rows a = c.as_slice-nodes.ensures ∙ c.index-rows-a.is ∙ get_or_default rows a c.index-rows-a.result [] c.requires.node in
    let step : Steps rows a b = subst (λ (ns : List ℕ). Contains ns b) are (Contains-get_or nodes i 0 c.loop-b-test.true) in
    let says = c.take_in-added.ensures in
    let was = c.loop-b.invariant in
    record {
      grows = grows_more w old mid new c.loop-b.grown c.take_in-added.result _ refl was.grows says.grows;
      sound = λ sound. sound_more rows c.requires.graph w old c.requires.fits a b mid new step says.gains (was.sound sound);
      closed = row_more w a b i nodes mid new c.loop-b.grown c.take_in-added.result c.loop-b-test.true refl says.grows says.taken was.closed;
    }

pub returns-clause-closed : goal.returns-clause-closed
returns-clause-closed c none =
    let rows = c.args.rows.now in
    let a = c.args.a in
    let nodes = c.as_slice-nodes.result.now in
    let are : nodes ≡ row rows a = c.as_slice-nodes.ensures ∙ c.index-rows-a.is ∙ get_or_default rows a c.index-rows-a.result [] c.requires.node in
    subst (λ (ns : List ℕ). HasRows c.args.width c.loop-b.bits a ns) (take_all c.loop-b.b-index nodes c.loop-b-test.false ∙ are) (c.loop-b.invariant.closed none)
