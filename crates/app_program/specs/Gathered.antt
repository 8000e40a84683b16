-- What is gathered of classes for a program. The public contracts don't cite this.
use Rattle.std.specs.Prelude.{◌≡◌, ◌<◌, ℕ, List, length}
use Rattle.clean_base.specs.Lists.{At}
use Rattle.clean_base.specs.declared.ids.MethodId.{MethodId}
use Rattle.jimple_tree.specs.declared.tree.Class.{Class}
use Rattle.jimple_tree.specs.declared.tree.Method.{Method}
use Rattle.source_sink.specs.declared.line.Line.{Line}
use Rattle.class_table.specs.Methods.{all_methods, stmts_in, IsNumber}
use Rattle.field_table.specs.Numbers.{AreFields}
use Rattle.reach_rows.specs.Closure.{IsClosure}
use Rattle.statement_graph.specs.Statements.{AreStatements}
use Rattle.statement_views.specs.Seen.{AreSeen}
use Rattle.program_code.specs.App.{locals_of}
use Rattle.program_code.specs.Views.{Raises}
use Rattle.program_code.specs.declared.parts.Parts.{Parts}
use Rattle.app_program.specs.Ends.{AreCalls, AreEnds, Gives, IsReach}
use Rattle.app_program.specs.declared.code_lists.CodeLists.{CodeLists}

-- the lists are those of the code of these classes and lines
pub record AreLists (cs : List Class) (lines : List Line) (l : CodeLists) : Type 0 where
  pub all_seen : length l.seen.views ≡ length (stmts_in cs)
  pub seen : AreSeen cs lines l.seen.views l.seen.targets
  pub counted : length l.locals ≡ length (all_methods cs)
  pub locals : (m : MethodId) (c : Class) (k : Method) → IsNumber cs m c k → At l.locals m.0 (length (locals_of k))
  pub statements : AreStatements cs l.graph.statements.firsts l.graph.statements.owners l.graph.statements.succs l.graph.statements.preds
  pub returns : AreEnds cs l.seen.views Gives (length (all_methods cs)) l.graph.returns
  pub throws : AreEnds cs l.seen.views Raises (length (all_methods cs)) l.graph.throws
  pub reach : IsReach cs l.seen.targets l.graph.closure

-- the parts are what was gathered of these classes and lines
pub record AreGathered (cs : List Class) (lines : List Line) (p : Parts) : Type 0 where
  pub table : p.table ≡ cs
  pub fields : AreFields cs p.fields
  pub root : p.root.0 < length (all_methods cs)
  pub counted : length p.locals ≡ length (all_methods cs)
  pub locals : (m : MethodId) (c : Class) (k : Method) → IsNumber cs m c k → At p.locals m.0 (length (locals_of k))
  pub statements : AreStatements cs p.firsts p.owners p.nexts p.preds
  pub all_seen : length p.views ≡ length (stmts_in cs)
  pub seen : AreSeen cs lines p.views p.targets
  pub returns : AreEnds cs p.views Gives (length (all_methods cs)) p.returns
  pub throws : AreEnds cs p.views Raises (length (all_methods cs)) p.throws
  pub calls : List (List ℕ)
  pub called : AreCalls cs p.targets (length (all_methods cs)) calls
  pub closure : IsClosure calls p.closure
