use Rattle.std.proofs.Common.{length, map, sym, ap, subst, arith}
use Rattle.list_lines.specs.Lines.{list_lines, trimmed}
use Rattle.list_lines.proofs.Faults.{ReadTo, no_list, whole}
use Rattle.dummy_main.specs.Listing.{AreListed, IsLineFault, Refused}
use Rattle.dummy_main.proofs.Once.{settled}
use Rattle.dummy_main.proofs.Read.{one_more, refused}
use Rattle.dummy_main.proofs.list.read_components.Goals as goal

pub loop-line-preserved : goal.loop-line-preserved
loop-line-preserved c =
    let lines = list_lines c.args.bytes.now in
    let first = c.in-Some.ensures.steps in
    let cs = c.loop-line.listed.components.items in
    let to = subst (λ ls. ReadTo AreListed lines ls cs c.loop-line.number) (ap (map trimmed) first) c.loop-line.invariant.read in
    record {
      can = tt;
      finite = tt;
      indexed = c.in-Ok.ensures.indexed;
      read = one_more lines (map trimmed c.next.new.self) (trimmed c.in-Some.line.now) cs c.take_line.new.self.components.items c.loop-line.number to c.in-Ok.ensures.adds;
      left = let long = ap length first in let left = c.loop-line.invariant.left in omega (arith, long, left);
    }

pub returns-in-Err-clause-err : goal.returns-in-Err-clause-err
returns-in-Err-clause-err c =
    let lines = list_lines c.args.bytes.now in
    let cs = c.loop-line.listed.components.items in
    let to = subst (λ ls. ReadTo AreListed lines ls cs c.loop-line.number) (ap (map trimmed) c.in-Some.ensures.steps) c.loop-line.invariant.read in
    subst (Refused c.args.file c.args.bytes.now) (sym c.stop_of.ensures)
    (refused c.args.file c.args.bytes.now (map trimmed c.next.new.self) (trimmed c.in-Some.line.now) cs c.loop-line.number c.in-Err.refusal to c.in-Err.ensures.refused)

pub returns-clause-ok : goal.returns-clause-ok
returns-clause-ok c =
    let lines = list_lines c.args.bytes.now in
    let cs = c.loop-line.listed.components.items in
    whole AreListed lines cs c.loop-line.number (subst (λ ls. ReadTo AreListed lines ls cs c.loop-line.number) (ap (map trimmed) c.in-None.ensures.steps.0) c.loop-line.invariant.read)

pub returns-clause-only : goal.returns-clause-only
returns-clause-only c = λ others are. (settled c.args.file).one_list (list_lines c.args.bytes.now) others c.loop-line.listed.components.items are (returns-clause-ok c)

pub returns-clause-faultless : goal.returns-clause-faultless
returns-clause-faultless c = λ fault first. no_list AreListed (IsLineFault c.args.file) (settled c.args.file) (list_lines c.args.bytes.now) fault c.loop-line.listed.components.items first (returns-clause-ok c)
