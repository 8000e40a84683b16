use Rattle.std.proofs.Common.{◌≡◌, ℕ, [], List, length, map, sym, ap, subst, arith}
use Rattle.list_lines.specs.Lines.{list_lines, trimmed}
use Rattle.list_lines.specs.Lists.{Give}
use Rattle.list_lines.proofs.Faults.{ReadTo, whole}
use Rattle.event_schedule.specs.declared.order.Order.{Order}
use Rattle.event_schedule.specs.Schedules.{Gives, IsList, Refused}
use Rattle.event_schedule.proofs.Lines.{faultless, one_more, only, refused}
use Rattle.event_schedule.proofs.schedule.read_schedule.Goals as goal

-- with no line left, the whole text was read
all : (bytes : List ℕ) (orders : List Order) (number : ℕ) (left : List (List ℕ)) → left ≡ [] → ReadTo (Give Gives) (list_lines bytes) (map trimmed left) orders number → IsList bytes orders
all bytes orders number left none to =
    whole (Give Gives) (list_lines bytes) orders number (subst (λ (ls : List (List ℕ)). ReadTo (Give Gives) (list_lines bytes) (map trimmed ls) orders number) none to)

pub loop-line-preserved : goal.loop-line-preserved
loop-line-preserved c =
    let lines = list_lines c.args.bytes.now in
    let first = c.in-Some.ensures.steps in
    let orders = c.loop-line.orders.items in
    let to = subst (λ left. ReadTo (Give Gives) lines left orders c.loop-line.number) (ap (map trimmed) first) c.loop-line.invariant.read in
    record {
      can = tt;
      finite = tt;
      read = one_more lines (map trimmed c.next.new.self) (trimmed c.in-Some.line.now) orders c.take_line.new.orders.items c.loop-line.number to c.in-Ok.ensures.adds;
      left = let long = ap length first in let left = c.loop-line.invariant.left in omega (arith, long, left);
    }

pub returns-in-Err-clause-err : goal.returns-in-Err-clause-err
returns-in-Err-clause-err c =
    let lines = list_lines c.args.bytes.now in
    let orders = c.loop-line.orders.items in
    let to = subst (λ left. ReadTo (Give Gives) lines left orders c.loop-line.number) (ap (map trimmed) c.in-Some.ensures.steps) c.loop-line.invariant.read in
    subst (Refused c.args.file c.args.bytes.now) (sym c.stop_of.ensures)
    (refused c.args.file c.args.bytes.now (map trimmed c.next.new.self) (trimmed c.in-Some.line.now) orders c.loop-line.number c.in-Err.refusal to c.in-Err.ensures.refused)

pub returns-clause-ok : goal.returns-clause-ok
returns-clause-ok c = all c.args.bytes.now c.loop-line.orders.items c.loop-line.number _ c.in-None.ensures.steps.0 c.loop-line.invariant.read

pub returns-clause-only : goal.returns-clause-only
returns-clause-only c = λ others are.
    only c.args.bytes.now c.loop-line.orders.items others (all c.args.bytes.now c.loop-line.orders.items c.loop-line.number _ c.in-None.ensures.steps.0 c.loop-line.invariant.read) are

pub returns-clause-faultless : goal.returns-clause-faultless
returns-clause-faultless c = λ fault first.
    faultless c.args.file c.args.bytes.now c.loop-line.orders.items fault (all c.args.bytes.now c.loop-line.orders.items c.loop-line.number _ c.in-None.ensures.steps.0 c.loop-line.invariant.read) first
