-- Methods, places and numbers as outputs print them (docs/FORMATS.md, "Report" and "Graph").
use Rattle.std.specs.Prelude.{ℕ, List, [], ◌++◌, codes, decimal, map, slice_index_or}
use Rattle.clean_base.specs.declared.ids.MethodId.{MethodId}
use Rattle.jimple_tree.specs.Printed.{method_text}
use Rattle.jimple_tree.specs.declared.tree.Class.{Class}
use Rattle.jimple_tree.specs.declared.tree.Method.{Method}
use Rattle.class_table.specs.Methods.{all_methods}

-- a method is printed as its signature; methods with a body are numbered in the order of the classes
unfoldable pub method_text_at : List Class → MethodId → List ℕ
method_text_at cs m = slice_index_or (map (λ (own : Class × Method). method_text own.0.name own.1) (all_methods cs)) m.0 []

-- the place of a statement, behind its method
abbrev pub place_text : ℕ → List ℕ
place_text place = codes "#" ++ decimal place

-- a word, a number and the end of the line
abbrev pub count_text : List ℕ → ℕ → List ℕ
count_text word n = word ++ decimal n ++ codes "\n"
