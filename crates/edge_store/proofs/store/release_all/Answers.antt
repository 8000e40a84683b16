use Rattle.std.proofs.Common.{◌∙◌, get_or, arith}
use Rattle.std.proofs.lemmas.List.{get_or_default, take_all}
use Rattle.edge_store.specs.declared.page.Page.{Page}
use Rattle.edge_store.proofs.Stored.{release_can, release_one}
use Rattle.edge_store.proofs.store.release_all.Goals as goal

nowhere : Page
nowhere = record { context = 0; fact = 0; number = 0 }

pub down-requires : goal.down-requires
unfolding nowhere
down-requires g c =
    let page = get_or c.args.pages.now c.loop-page.page-index nowhere in
    release_can c.args.pages.now c.loop-page.page-index page c.loop-page.pool.counts c.args.pool.now.counts (get_or_default c.args.pages.now c.loop-page.page-index nowhere page c.loop-page-test.true) c.loop-page-test.true c.loop-page.invariant.counts c.requires

pub loop-page-preserved : goal.loop-page-preserved
unfolding nowhere
loop-page-preserved g c =
    let page = get_or c.args.pages.now c.loop-page.page-index nowhere in
    let is = get_or_default c.args.pages.now c.loop-page.page-index nowhere page c.loop-page-test.true in
    let can = release_can c.args.pages.now c.loop-page.page-index page c.loop-page.pool.counts c.args.pool.now.counts is c.loop-page-test.true c.loop-page.invariant.counts c.requires in
    record {
      facts = c.down.ensures.facts ∙ c.loop-page.invariant.facts;
      counts = λ n. rw c.down.ensures.counts (release_one c.args.pages.now c.loop-page.page-index page c.loop-page.pool.counts c.args.pool.now.counts is c.loop-page-test.true c.loop-page.invariant.counts can n);
      used = omega (arith, c.down.ensures.used, c.loop-page.invariant.used);
      spare = c.down.ensures.spare ∙ c.loop-page.invariant.spare;
    }

pub returns-clause-counts : goal.returns-clause-counts
returns-clause-counts g c = λ n. rw (take_all c.loop-page.page-index c.args.pages.now c.loop-page-test.false) at (c.loop-page.invariant.counts n)
