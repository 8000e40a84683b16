use Rattle.std.proofs.Common.{◌≡◌, length, ap, ◌∙◌, arith}
use Rattle.class_table.specs.Faults.{classes}
use Rattle.class_table.specs.Hierarchy.{class_names}
use Rattle.class_table.proofs.names.numbered.Goals as goal

pub returns-then-len-gt-MOST_CLASSES-clause-err : goal.returns-then-len-gt-MOST_CLASSES-clause-err
returns-then-len-gt-MOST_CLASSES-clause-err c =
    let all : c.len.result ≡ length (class_names c.args.classes.now) = c.len.ensures.len ∙ ap length c.in-Ok.ensures in
    classes (omega (arith, all))
