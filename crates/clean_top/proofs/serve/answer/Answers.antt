use Rattle.std.proofs.lemmas.Result.{err_from_is_err_and}
use Rattle.clean_top.proofs.Among.{has_few, work_halts_among}
use Rattle.clean_top.proofs.ReadSo.{texts_halt, work_halts, work_ends}
use Rattle.clean_top.specs.Meaning.{work}
use Rattle.clean_top.proofs.serve.answer.Goals as goal

pub read_named-requires : goal.read_named-requires
read_named-requires g c = record { few = has_few c.args.command.now c.requires }

pub returns-in_err-texts-clause-read : goal.returns-in_err-texts-clause-read
returns-in_err-texts-clause-read g c =
    let p = err_from_is_err_and c.from_residual.result c.from_residual.ensures.1 in
    let command = c.args.command.now in
    rw (p.1, p.2) (texts_halt _ _ _ command.names (work command.task) c.in_err-texts.field-0.0 c.in_err-texts.ensures.read)

pub returns-in_err-work-clause-read : goal.returns-in_err-work-clause-read
returns-in_err-work-clause-read g c =
    let p = err_from_is_err_and c.from_residual-in_err-work.result c.from_residual-in_err-work.ensures.1 in
    let command = c.args.command.now in
    rw (p.1, p.2) (work_halts _ _ _ command.names (work command.task) c.in_ok-texts.texts c.in_ok-texts.ensures.read.so _ c.in_err-work.ensures)

pub returns-clause-read : goal.returns-clause-read
returns-clause-read g c =
    let command = c.args.command.now in
    work_ends _ _ _ command.names (work command.task) c.in_ok-texts.texts c.in_ok-texts.ensures.read.so _ c.in_ok-work.ensures

pub returns-in_err-texts-clause-among : goal.returns-in_err-texts-clause-among
returns-in_err-texts-clause-among g c =
    let p = err_from_is_err_and c.from_residual.result c.from_residual.ensures.1 in
    rw (p.1, p.2) c.in_err-texts.ensures.among

pub returns-in_err-work-clause-among : goal.returns-in_err-work-clause-among
returns-in_err-work-clause-among g c =
    let p = err_from_is_err_and c.from_residual-in_err-work.result c.from_residual-in_err-work.ensures.1 in
    let command = c.args.command.now in
    let fits = c.requires in
    rw (p.1, p.2) (work_halts_among _ fits.some command.task c.in_ok-texts.texts c.in_ok-texts.ensures.of _ c.in_err-work.ensures)
