use Rattle.std.proofs.Common.{get_or, ◌-◌}
use Rattle.flat_rows.proofs.Walking.{walk_more, walk_lower, link_read}
use Rattle.flat_rows.specs.declared.chains.Link.{Link}
use Rattle.flat_rows.proofs.backwards.add_chain.Goals as goal

pub loop-at-smaller : goal.loop-at-smaller
loop-at-smaller c =
    let links = c.args.links.now in
    let at = c.loop-at.at in
    let walk = c.loop-at.invariant in
    let none : Link = record { node = 0; next = 0 } in
    walk_lower links c.args.head c.args.back.now c.loop-at.back at (get_or links (at - 1) none) walk c.loop-at-test.true (link_read links at walk.left none c.loop-at-test.true walk.rest)

pub loop-at-preserved : goal.loop-at-preserved
loop-at-preserved c =
    let links = c.args.links.now in
    let at = c.loop-at.at in
    let walk = c.loop-at.invariant in
    let none : Link = record { node = 0; next = 0 } in
    walk_more links c.args.head c.args.back.now c.loop-at.back c.add.new.self at (get_or links (at - 1) none) walk c.loop-at-test.true (link_read links at walk.left none c.loop-at-test.true walk.rest) c.in_ok-add.ensures
