-- The text of a call graph (docs/FORMATS.md, "Graph").
use Rattle.std.specs.Prelude.{ℕ, false, List, ◌++◌, codes, length, flat_map}
use Rattle.jimple_tree.specs.declared.tree.Class.{Class}
use Rattle.call_graph.specs.declared.edges.CallEdge.{CallEdge}
use Rattle.call_graph.specs.declared.edges.CallGraph.{CallGraph}
use Rattle.leak_report.specs.Printed.{method_text_at, place_text, count_text}
use Rattle.clean_top.specs.declared.output.Output.{Output}

-- the statement of an open call, and a method that it may come to
abbrev pub call_text : List Class → CallEdge → List ℕ
call_text cs e = codes "call " ++ method_text_at cs e.caller ++ place_text e.place ++ codes " to " ++ method_text_at cs e.target ++ codes "\n"

-- a line for each open call, in order, and the number of the methods that are reached
abbrev pub graph_text : List Class → CallGraph → List ℕ
graph_text cs g = flat_map (call_text cs) g.calls ++ count_text (codes "methods ") (length g.reached)

-- the output of a graph has no leak line
abbrev pub drawn : List Class → CallGraph → Output
drawn cs g = record { text = graph_text cs g; leaky = false }
