use Rattle.std.proofs.Common.{refl}
use Rattle.clean_top.specs.Answer.{run_of}
use Rattle.clean_top.proofs.Served.{ends, halts_so}
use Rattle.clean_top.proofs.serve.serve.Goals as goal

pub returns-in-Ok-clause-serves : goal.returns-in-Ok-clause-serves
returns-in-Ok-clause-serves g c =
    let a = c.args in
    ends (run_of g.S.Shelf.holds g.S.Shelf.faults g.K.Sink.taken g.K.Sink.faults a.shelf.now c.answer.new.shelf a.out.now c.write_out.new.out) a.command.now
    c.in-Ok.output _ c.in-Ok.ensures.read c.write_out.ensures

pub returns-in-Err-clause-serves : goal.returns-in-Err-clause-serves
returns-in-Err-clause-serves g c =
    let a = c.args in
    halts_so (run_of g.S.Shelf.holds g.S.Shelf.faults g.K.Sink.taken g.K.Sink.faults a.shelf.now c.answer.new.shelf a.out.now a.out.now) a.command.now
    c.in-Err.halt _ c.in-Err.ensures.read c.in-Err.ensures.among refl c.halted.ensures
