-- The outputs of `check` and `main` (docs/FORMATS.md, "Numbers" and "Canonical text").
use Rattle.std.specs.Prelude.{false, List, ◌++◌, codes, length}
use Rattle.jimple_tree.specs.Canonical.{canonical}
use Rattle.jimple_tree.specs.declared.tree.Class.{Class}
use Rattle.class_table.specs.Methods.{all_methods, stmts_in}
use Rattle.leak_report.specs.Printed.{count_text}
use Rattle.clean_top.specs.declared.output.Output.{Output}

-- how many classes are given, how many methods have a body, and how many statements these have
abbrev pub counted : List Class → Output
counted cs = record {
  text = count_text (codes "classes ") (length cs) ++ (count_text (codes "methods ") (length (all_methods cs)) ++ count_text (codes "statements ") (length (stmts_in cs)));
  leaky = false;
}

-- the canonical text of a class
abbrev pub printed : Class → Output
printed c = record { text = canonical c; leaky = false }
