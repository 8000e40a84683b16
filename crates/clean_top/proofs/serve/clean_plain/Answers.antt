use Rattle.std.proofs.Common.{refl, sym, subst}
use Rattle.clean_top.specs.Answer.{Serves, run_of}
use Rattle.clean_top.proofs.Served.{free, or_memory}
use Rattle.clean_top.specs.declared.task.Command.{Command}
use Rattle.clean_top.proofs.serve.clean_plain.Goals as goal

pub returns-in-Ok-Some-clause-serves : goal.returns-in-Ok-Some-clause-serves
returns-in-Ok-Some-clause-serves g c = λ asked asks.
    let a = c.args in
    let run = run_of g.S.Shelf.holds g.S.Shelf.faults g.K.Sink.taken g.K.Sink.faults a.shelf.now c.serve-status.new.shelf a.out.now c.serve-status.new.out in
    let once = rw c.in-Ok-Some.field-0-is at c.in-Ok-Some.ensures.some in
    or_memory run asked c.serve-status.result c.complain.result c.complain.ensures.status
    (subst (λ (command : Command). Serves run command c.serve-status.result) (sym (once.1 asked asks)) c.serve-status.ensures.serves)

pub returns-in-Ok-Some-clause-usage : goal.returns-in-Ok-Some-clause-usage
returns-in-Ok-Some-clause-usage g c = λ usage.
    let once = rw c.in-Ok-Some.field-0-is at c.in-Ok-Some.ensures.some in
    absurd (usage c.in-Ok-Some.command once.0)

pub returns-in-Ok-Some-clause-line : goal.returns-in-Ok-Some-clause-line
returns-in-Ok-Some-clause-line g c = λ names named.
    let once = rw c.in-Ok-Some.field-0-is at c.in-Ok-Some.ensures.some in
    rw (named.are c.in-Ok-Some.command once.0) c.complain.ensures.line

pub returns-in-Ok-None-clause-serves : goal.returns-in-Ok-None-clause-serves
returns-in-Ok-None-clause-serves g c = λ asked asks.
    let none = rw c.in-Ok-None.field-0-is at c.in-Ok-None.ensures.none in
    absurd (none asked asks)

pub returns-in-Err-clause-serves : goal.returns-in-Err-clause-serves
returns-in-Err-clause-serves g c = λ asked asks.
    let a = c.args in
    free (run_of g.S.Shelf.holds g.S.Shelf.faults g.K.Sink.taken g.K.Sink.faults a.shelf.now a.shelf.now a.out.now a.out.now) asked refl
