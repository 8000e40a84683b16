-- What a command means: a refusal or an output (docs/COMMANDS.md, "Refusals" and "Outputs").
use Rattle.std.specs.Prelude.{◌≡◌, ◌≤◌, ◌+◌, ◌++◌, ◌∷◌, [], ℕ, List, flat_map}
use Rattle.clean_base.specs.declared.fault.InputFault.{InputFault}
use Rattle.clean_base.specs.declared.ids.MethodId.{MethodId}
use Rattle.clean_stage.specs.Stage.{Stage, ◌>>=◌, done, every}
use Rattle.clean_stage.specs.declared.halt.Halt.{Halt}
use Rattle.clean_stage.specs.declared.halt.Halt.TheVariants.{Refused, OutOfMemory}
use Rattle.clean_stage.specs.declared.halt.Refusal.TheVariants.{Fault, EdgeLimit}
use Rattle.ifds_model.specs.Machine.{Machine}
use Rattle.ifds_model.specs.Runs.{IsEdge}
use Rattle.ifds_model.specs.declared.node.Leak.{Leak}
use Rattle.core_driver.specs.More.{HasMoreThan}
use Rattle.solver_core.specs.declared.answer.CommitStop.{CommitStop}
use Rattle.solver_core.specs.declared.answer.CommitStop.TheVariants as commits
use Rattle.command_line.specs.declared.tuning.Tuning.{Tuning}
use Rattle.jimple_text.specs.Reads.{Reads, IsFault}
use Rattle.jimple_tree.specs.declared.tree.Class.{Class}
use Rattle.list_lines.specs.Lines.{list_lines}
use Rattle.source_sink.specs.Lists.{IsList, IsFault as IsListFault}
use Rattle.source_sink.specs.declared.line.Line.{Line}
use Rattle.dummy_main.specs.Layout.{class_of}
use Rattle.dummy_main.specs.Listing.{IsFault as IsComponentFault, IsList as IsComponentList}
use Rattle.dummy_main.specs.declared.component.Component.{Component}
use Rattle.class_table.specs.Faults.{IsFault as IsClassFault}
use Rattle.call_graph.specs.Graphs.{IsCallGraph}
use Rattle.call_graph.specs.declared.edges.CallGraph.{CallGraph}
use Rattle.access_path.specs.declared.fact.Fact.{Fact}
use Rattle.flow_rules.specs.Machine.{machine}
use Rattle.program_code.specs.App.{App}
use Rattle.app_program.specs.Entry.{IsRoot, IsRootFault}
use Rattle.app_program.specs.Faults.{IsFault as IsProgramFault}
use Rattle.app_program.specs.Program.{IsProgram}
use Rattle.app_program.specs.declared.entry.Entry.{Entry}
use Rattle.app_program.specs.declared.entry.Entry.TheVariants.{Method, Components}
use Rattle.leak_report.specs.Report.{Reports}
use Rattle.clean_top.specs.Count.{counted, printed}
use Rattle.clean_top.specs.Graph.{drawn}
use Rattle.clean_top.specs.Reading.{text_at, texts_in}
use Rattle.clean_top.specs.Words.{list_place}
use Rattle.clean_top.specs.declared.input.Input.{Input}
use Rattle.clean_top.specs.declared.output.Output.{Output}
use Rattle.clean_top.specs.declared.read.Text.{Text}
use Rattle.clean_top.specs.declared.read.Texts.{Texts}
use Rattle.clean_top.specs.declared.task.Command.{Command}
use Rattle.clean_top.specs.declared.task.Start.{Start}
use Rattle.clean_top.specs.declared.task.Start.TheVariants as starts
use Rattle.clean_top.specs.declared.task.Task.{Task}
use Rattle.clean_top.specs.declared.task.Task.TheVariants.{Check, Main, Graph, Serial}

-- the classes of a class file
abbrev pub classes_of : Text → Stage (List Class)
classes_of text = record {
  refuses = λ r. (f : InputFault) × IsFault text.file text.bytes f × (r ≡ Fault f);
  gives = λ cs. Reads text.bytes cs;
}

-- the classes of all class files, in order
abbrev pub classes_in : List Text → Stage (List Class)
classes_in texts = every classes_of texts >>= λ files. done (flat_map (λ (cs : List Class). cs) files)

-- the lines of a list of sources and sinks
abbrev pub lines_of : Text → Stage (List Line)
lines_of text = record {
  refuses = λ r. (f : InputFault) × IsListFault text.file (list_lines text.bytes) f × (r ≡ Fault f);
  gives = λ ls. IsList text.bytes ls;
}

-- the components of a list
abbrev pub components_in : Text → Stage (List Component)
components_in text = record {
  refuses = λ r. (f : InputFault) × IsComponentFault text.file (list_lines text.bytes) f × (r ≡ Fault f);
  gives = λ components. IsComponentList text.bytes components;
}

-- where the program is entered
abbrev pub entry_in : Start → List Text → Stage Entry
entry_in (starts.Method sig) lists = done (Method sig)
entry_in starts.Components lists = components_in (text_at lists 0) >>= λ components. done (Components components)

-- the classes, with the one that is generated for the entry's components behind them
abbrev pub with_main : Entry → List Class → List Class
with_main (Method sig) cs = cs
with_main (Components components) cs = cs ++ class_of components ∷ []

-- the classes have no fault, so they have a table
abbrev pub tabled : List Class → Stage (List Class)
tabled cs = record {
  refuses = λ r. (f : InputFault) × IsClassFault cs f × (r ≡ Fault f);
  gives = λ table. ((f : InputFault) → IsClassFault cs f → ⊥) × (table ≡ cs);
}

-- the classes of a program, the lines of its list, and where it is entered
abbrev pub input_in : Start → Texts → Stage Input
input_in start texts =
    classes_in texts.classes >>= λ cs.
    entry_in start texts.lists >>= λ entry.
    lines_of (text_at texts.lists (list_place start)) >>= λ ls.
    tabled (with_main entry cs) >>= λ table.
    done (record { table = table; lists = ls; entry = entry })

-- these have a program
abbrev pub assembled : Input → Stage App
assembled input = record {
  refuses = λ r. (f : InputFault) × IsProgramFault input.table input.entry f × (r ≡ Fault f);
  gives = λ app. ((f : InputFault) → IsProgramFault input.table input.entry f → ⊥) × IsProgram input.table input.lists input.entry app;
}

-- the program as a stack machine whose paths keep so many fields
abbrev pub machine_of : ℕ → App → Machine Fact Leak
machine_of k app = machine k app.code

-- the program has more path edges than are allowed
abbrev pub IsOver : Tuning → App → Type 0
IsOver tuning app = HasMoreThan (IsEdge (machine_of tuning.k app)) tuning.max_edges

-- it has no more, and this is its report
pub record IsReport (tuning : Tuning) (app : App) (o : Output) : Type 0 where
  pub edges : ℕ
  pub within : edges ≤ tuning.max_edges
  pub reports : Reports (machine_of tuning.k app) app edges o.text o.leaky

-- the report of a program, or the limit that it passes
abbrev pub reported : Tuning → App → Stage Output
reported tuning app = record {
  refuses = λ r. IsOver tuning app × (r ≡ EdgeLimit (tuning.max_edges + 1));
  gives = λ o. IsReport tuning app o;
}

abbrev pub serially : Start → Tuning → Texts → Stage Output
serially start tuning texts =
    input_in start texts >>= λ input.
    assembled input >>= λ app.
    reported tuning app

-- the method where the classes of an input are entered
abbrev pub rooted : Input → Stage MethodId
rooted input = record {
  refuses = λ r. (f : InputFault) × IsRootFault input.table input.entry f × (r ≡ Fault f);
  gives = λ m. ((f : InputFault) → IsRootFault input.table input.entry f → ⊥) × IsRoot input.table input.entry m;
}

-- the graph of the open calls from a method on
abbrev pub called : Input → MethodId → Stage CallGraph
called input root = record { refuses = λ r. ⊥; gives = λ g. IsCallGraph input.table input.lists root g }

abbrev pub graphed : Start → Texts → Stage Output
graphed start texts =
    input_in start texts >>= λ input.
    rooted input >>= λ root.
    called input root >>= λ g.
    done (drawn input.table g)

abbrev pub checked : Texts → Stage Output
checked texts =
    classes_in texts.classes >>= λ cs.
    tabled cs >>= λ table.
    done (counted table)

-- the class that is generated for the components of a list
abbrev pub generated : Texts → Stage Output
generated texts = components_in (text_at texts.lists 0) >>= λ components. done (printed (class_of components))

-- the work of a command on the texts of its files
abbrev pub work : Task → Texts → Stage Output
work Check texts = checked texts
work Main texts = generated texts
work (Graph start) texts = graphed start texts
work (Serial start tuning) texts = serially start tuning texts

-- all files are read, and then comes the work
abbrev pub means : Command → (List ℕ → List ℕ) → Stage Output
means command files = texts_in command.names files >>= λ texts. work command.task texts

-- the stops of the solver
abbrev pub of_commit : CommitStop → Halt
of_commit (commits.EdgeLimit found) = Refused (EdgeLimit found)
of_commit commits.OutOfMemory = OutOfMemory
