use Rattle.std.proofs.Common.{false, List, ℕ, codes, length, append_assoc, ap}
use Rattle.class_table.specs.Methods.{all_methods, stmts_in}
use Rattle.leak_report.specs.Printed.{count_text}
use Rattle.clean_top.specs.declared.output.Output.{Output}
use Rattle.clean_top.proofs.count.count.Goals as goal

pub returns : goal.returns
returns c =
    let cs = c.args.table.now in
    rw (c.from_vec.ensures, c.in_ok-write_count-3.ensures, c.in_ok-write_count-2.ensures, c.in_ok-write_count.ensures, c.new-text.ensures.items, c.given.ensures.same, c.methods.ensures, c.stmts.ensures)
    (ap (λ (text : List ℕ). let o : Output = record { text = text; leaky = false } in o)
    (append_assoc (count_text (codes "classes ") (length cs)) (count_text (codes "methods ") (length (all_methods cs))) (count_text (codes "statements ") (length (stmts_in cs)))))
