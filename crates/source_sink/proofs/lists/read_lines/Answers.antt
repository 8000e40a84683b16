use Rattle.std.proofs.Common.{length, map, sym, ap, subst, arith}
use Rattle.list_lines.specs.Lines.{list_lines, trimmed}
use Rattle.list_lines.specs.Lists.{Give}
use Rattle.list_lines.proofs.Faults.{ReadTo, whole}
use Rattle.source_sink.specs.Lists.{Gives, Refused}
use Rattle.source_sink.proofs.Lines.{one_more, refused}
use Rattle.source_sink.proofs.lists.read_lines.Goals as goal

pub loop-line-preserved : goal.loop-line-preserved
loop-line-preserved c =
    let lines = list_lines c.args.bytes.now in
    let first = c.in-Some.ensures.steps in
    let ls = c.loop-line.lines.items in
    let to = subst (λ left. ReadTo (Give Gives) lines left ls c.loop-line.number) (ap (map trimmed) first) c.loop-line.invariant.read in
    record {
      can = tt;
      finite = tt;
      read = one_more lines (map trimmed c.next.new.self) (trimmed c.in-Some.line.now) ls c.take_line.new.lines.items c.loop-line.number to c.in-Ok.ensures.adds;
      left = let long = ap length first in let left = c.loop-line.invariant.left in omega (arith, long, left);
    }

pub returns-in-Err-clause-err : goal.returns-in-Err-clause-err
returns-in-Err-clause-err c =
    let lines = list_lines c.args.bytes.now in
    let ls = c.loop-line.lines.items in
    let to = subst (λ left. ReadTo (Give Gives) lines left ls c.loop-line.number) (ap (map trimmed) c.in-Some.ensures.steps) c.loop-line.invariant.read in
    subst (Refused c.args.file c.args.bytes.now) (sym c.stop_of.ensures)
    (refused c.args.file c.args.bytes.now (map trimmed c.next.new.self) (trimmed c.in-Some.line.now) ls c.loop-line.number c.in-Err.miss to c.in-Err.ensures.refused)

pub returns-clause-ok : goal.returns-clause-ok
returns-clause-ok c =
    let lines = list_lines c.args.bytes.now in
    let ls = c.loop-line.lines.items in
    whole (Give Gives) lines ls c.loop-line.number (subst (λ left. ReadTo (Give Gives) lines left ls c.loop-line.number) (ap (map trimmed) c.in-None.ensures.steps.0) c.loop-line.invariant.read)
