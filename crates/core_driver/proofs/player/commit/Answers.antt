use Rattle.core_driver.proofs.Playing.{commit_plays, commit_stops}
use Rattle.core_driver.proofs.player.commit.Goals as goal

pub returns-in-Some-clause-plays : goal.returns-in-Some-clause-plays
returns-in-Some-clause-plays g c =
    let p = c.args.state.now.problem in
    commit_plays (g.P.Problem.machine p) (g.P.Problem.reaches p) c.args.state.now.view c.args.worker c.in-Some.item c.commit_item.new.state.view c.commit_item.result c.in-Some.ensures.flies c.commit_item.ensures.event

pub returns-in-Some-clause-stopped : goal.returns-in-Some-clause-stopped
returns-in-Some-clause-stopped g c =
    let p = c.args.state.now.problem in
    commit_stops (g.P.Problem.machine p) (g.P.Problem.reaches p) c.args.state.now.view c.args.worker c.in-Some.item c.commit_item.result c.in-Some.ensures.flies c.commit_item.ensures.stopped
