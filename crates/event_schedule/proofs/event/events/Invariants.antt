use Rattle.std.proofs.Common.{take}
use Rattle.event_schedule.specs.Ordered.{AreEvents}
use Rattle.event_schedule.proofs.event.events.Given as goal

-- the orders so far are the events so far
abbrev pub invariant-loop-order : goal.invariant-loop-order
invariant-loop-order l = AreEvents l.classes (take l.order-index l.orders) l.events.items
