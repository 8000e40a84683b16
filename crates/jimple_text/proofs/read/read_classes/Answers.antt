use Rattle.std.specs.Global.{Vec}
use Rattle.jimple_tree.specs.declared.tree.Class.{Class}
use Rattle.std.proofs.lemmas.Result.{err_from_is_err_and}
use Rattle.jimple_text.proofs.Formed.{formed}
use Rattle.jimple_text.proofs.Lexed.{fits, all_read, all_refused, unlexed}
use Rattle.jimple_text.proofs.read.read_classes.Goals as goal

pub build-requires : goal.build-requires
build-requires c =
    let tokens = c.in_ok-tokens.ensures in
    fits c.args.bytes.now c.in_ok-tokens.tokens.items c.as_slice.result.now c.as_slice.ensures.value tokens.ok tokens.spans c.requires

pub returns-clause-ok : goal.returns-clause-ok
returns-clause-ok c =
    let tokens = c.in_ok-tokens.ensures in
    all_read c.args.file c.args.bytes.now c.in_ok-tokens.tokens.items c.as_slice.result.now tokens.ok tokens.only c.as_slice.ensures.value (λ (cs : Vec Class). cs.items) c.build.result c.build.ensures.ok

pub returns-clause-err : goal.returns-clause-err
returns-clause-err c =
    let tokens = c.in_ok-tokens.ensures in
    all_refused c.args.file c.args.bytes.now c.in_ok-tokens.tokens.items c.as_slice.result.now tokens.ok tokens.only c.as_slice.ensures.value c.build.result c.build.ensures.err

pub returns-in_err-tokens-clause-err : goal.returns-in_err-tokens-clause-err
returns-in_err-tokens-clause-err c =
    let p = err_from_is_err_and c.from_residual.result c.from_residual.ensures.1 in
    rw (p.1, p.2) (unlexed c.args.file c.args.bytes.now c.in_err-tokens.field-0.0 c.in_err-tokens.ensures.err)

pub returns-in_err-tokens-clause-formed : goal.returns-in_err-tokens-clause-formed
returns-in_err-tokens-clause-formed c = formed c.args.bytes.now

pub returns-clause-formed : goal.returns-clause-formed
returns-clause-formed c = formed c.args.bytes.now
