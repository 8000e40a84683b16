use Rattle.std.proofs.Common.{List, map, Err, ◌∙◌, ap, subst, sym}
use Rattle.jimple_grammar.specs.declared.raw.RawClass.{RawClass}
use Rattle.jimple_names.specs.Faults.{names_fault}
use Rattle.jimple_names.specs.Tree.{class_of}
use Rattle.std.specs.Global.{Vec}
use Rattle.jimple_tree.specs.declared.tree.Class.{Class}
use Rattle.jimple_names.specs.Named.{Named}
use Rattle.jimple_text.specs.Settled.{TokensRefused}
use Rattle.jimple_text.proofs.Told.{given, misnamed_by}
use Rattle.jimple_text.proofs.read.build.Goals as goal

pub returns-in-Ok-name_classes-clause-ok : goal.returns-in-Ok-name_classes-clause-ok
returns-in-Ok-name_classes-clause-ok c =
    let told = c.in-Ok.ensures.told in
    let named = c.in-Ok-name_classes.ensures.named in
    given c.args.file c.args.bytes.now c.args.tokens.now c.in-Ok.ensures.settled c.in-Ok.tree told.found told.only c.in-Ok-name_classes.classes.items
    (ap (names_fault c.args.bytes.now) (sym c.as_slice.ensures) ∙ named.0) (named.1 ∙ ap (map (class_of c.args.bytes.now)) c.as_slice.ensures)

pub returns-clause-err : goal.returns-clause-err
returns-clause-err c =
    let told = c.in-Ok.ensures.told in
    let named = subst (λ (t : List RawClass). Named {X = Vec Class} (λ v. v.items) (Err c.in-Err-name_classes.stop) (map (class_of c.args.bytes.now) t) (names_fault c.args.bytes.now t)) c.as_slice.ensures c.in-Err-name_classes.ensures.named in
    subst (TokensRefused c.args.file c.args.bytes.now c.args.tokens.now) (sym c.name_stop.ensures)
    (misnamed_by c.args.file c.args.bytes.now c.args.tokens.now c.in-Ok.ensures.settled c.in-Ok.tree told.found told.only (λ (v : Vec Class). v.items) c.in-Err-name_classes.stop named)
