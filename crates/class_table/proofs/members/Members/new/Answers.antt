use Rattle.class_table.proofs.Numbers.{owns_more}
use Rattle.class_table.proofs.members.Members.new.Goals as goal

pub loop-at-preserved : goal.loop-at-preserved
loop-at-preserved c = record {
  owns = owns_more c.args.classes.now c.loop-at.at c.loop-at.owns.items c.push.new.self.items _ c.loop-at.invariant.owns c.in_ok-members_of.ensures.own c.in_ok-push.ensures.items;
  places = c.in_ok-members_of.ensures.places;
}
