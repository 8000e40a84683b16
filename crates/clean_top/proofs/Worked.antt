-- The layers below come out as the stages of a command do.
use Rattle.std.proofs.Common.{◌≡◌, ◌+◌, ℕ, Bool, List, All, get_or, Ok, Err, refl, sym, ◌∙◌, ap, subst, arith}
use Rattle.std.proofs.lemmas.List.Elements.{Contains-get_or}
use Rattle.clean_base.specs.declared.fault.InputFault.{InputFault}
use Rattle.clean_base.specs.declared.fault.Stop.{Stop}
use Rattle.clean_base.specs.declared.fault.Stop.TheVariants as stops
use Rattle.clean_base.specs.declared.ids.MethodId.{MethodId}
use Rattle.clean_stage.proofs.Stages.{gives_only, refuses_only, is_done, out_of_memory}
use Rattle.clean_stage.specs.Stage.{Comes, done, of_stop}
use Rattle.clean_stage.specs.declared.halt.Refusal.TheVariants.{Fault, EdgeLimit}
use Rattle.command_line.specs.declared.tuning.Tuning.{Tuning}
use Rattle.ifds_model.specs.Runs.{IsEdge, IsLeak, Lists}
use Rattle.ifds_model.specs.declared.node.Leak.{Leak}
use Rattle.solver_core.specs.declared.answer.CommitStop.{CommitStop}
use Rattle.solver_core.specs.declared.answer.CommitStop.TheVariants as commits
use Rattle.core_driver.specs.Driven.{IsRefused}
use Rattle.core_driver.specs.More.{HasMoreThan, no_count}
use Rattle.jimple_text.specs.Settled.{IsRead, Refused as Unread}
use Rattle.jimple_tree.specs.declared.tree.Class.{Class}
use Rattle.list_lines.specs.Lines.{list_lines}
use Rattle.source_sink.specs.Lists.{IsList, IsFirstFault as IsFirstListFault, Refused as Unlisted}
use Rattle.source_sink.specs.declared.line.Line.{Line}
use Rattle.dummy_main.specs.Layout.{class_of}
use Rattle.dummy_main.specs.Listing.{IsList as IsComponentList, IsFirstFault as IsFirstComponentFault, Refused as NoComponents}
use Rattle.dummy_main.specs.declared.component.Component.{Component}
use Rattle.class_table.specs.Faults.{IsFault as IsClassFault, IsOnly, Refused as Untabled}
use Rattle.call_graph.specs.Graphs.{IsCallGraph}
use Rattle.call_graph.specs.declared.edges.CallGraph.{CallGraph}
use Rattle.flow_rules.specs.Code.{Code}
use Rattle.flow_rules.specs.Machine.{machine}
use Rattle.flow_rules.specs.Own.{OwnLeak}
use Rattle.program_code.specs.App.{App}
use Rattle.app_program.specs.Entry.{IsOnlyRootFault, IsRoot, IsRootFault, RootRefused}
use Rattle.app_program.specs.Faults.{IsFault as IsProgramFault, IsOnly as IsOnlyOfProgram, Refused as Unassembled}
use Rattle.app_program.specs.Program.{IsProgram}
use Rattle.leak_report.specs.Report.{Reports}
use Rattle.clean_top.specs.Count.{printed}
use Rattle.clean_top.specs.Meaning.{classes_of, lines_of, components_in, assembled, reported, tabled, rooted, called, IsReport, IsOver, machine_of, of_commit}
use Rattle.clean_top.specs.declared.input.Input.{Input}
use Rattle.clean_top.specs.declared.output.Output.{Output}
use Rattle.clean_top.specs.declared.read.Text.{Text}

module _ (text : Text) where
  pub classes_come : (cs : List Class) → IsRead text.file text.bytes cs → Comes (classes_of text) (Ok cs)
  classes_come cs is = gives_only cs is.reads is.only (λ r refuses. is.no_fault refuses.0 refuses.1)

  pub classes_stop : (stop : Stop) → Unread text.file text.bytes stop → Comes (classes_of text) (Err (of_stop stop))
  classes_stop (stops.Fault f) is = refuses_only (Fault f) (f, is.is, refl) (λ r refuses. refuses.2 ∙ ap Fault (is.only refuses.0 refuses.1)) is.no_classes
  classes_stop stops.OutOfMemory is = out_of_memory _

  pub lines_come : (ls : List Line) → IsList text.bytes ls → ((ms : List Line) → IsList text.bytes ms → ms ≡ ls) → ((f : InputFault) → IsFirstListFault text.file (list_lines text.bytes) f → ⊥) → Comes (lines_of text) (Ok ls)
  lines_come ls are only none = gives_only ls are only (λ r refuses. let is = refuses.1 in none refuses.0 is.first)

  pub lines_stop : (stop : Stop) → Unlisted text.file text.bytes stop → Comes (lines_of text) (Err (of_stop stop))
  lines_stop (stops.Fault f) is = refuses_only (Fault f) (f, is, refl) (λ r refuses. let also = refuses.1 in refuses.2 ∙ ap Fault (is.only refuses.0 also.first)) is.no_list
  lines_stop stops.OutOfMemory is = out_of_memory _

  pub components_come : (cs : List Component) → IsComponentList text.bytes cs → ((ds : List Component) → IsComponentList text.bytes ds → ds ≡ cs) → ((f : InputFault) → IsFirstComponentFault text.file (list_lines text.bytes) f → ⊥) → Comes (components_in text) (Ok cs)
  components_come cs are only none = gives_only cs are only (λ r refuses. let is = refuses.1 in none refuses.0 is.first)

  pub components_stop : (stop : Stop) → NoComponents text.file text.bytes stop → Comes (components_in text) (Err (of_stop stop))
  components_stop (stops.Fault f) is = refuses_only (Fault f) (f, is, refl) (λ r refuses. let also = refuses.1 in refuses.2 ∙ ap Fault (is.only refuses.0 also.first)) is.no_list
  components_stop stops.OutOfMemory is = out_of_memory _

module _ (input : Input) where
  pub program_comes : (app : App) → IsProgram input.table input.lists input.entry app → ((other : App) → IsProgram input.table input.lists input.entry other → other ≡ app) → ((f : InputFault) → IsProgramFault input.table input.entry f → ⊥) → Comes (assembled input) (Ok app)
  program_comes app is only none = gives_only app (none, is) (λ other gives. only other gives.1) (λ r refuses. none refuses.0 refuses.1)

  pub program_stops : (stop : Stop) → Unassembled input.table input.entry stop → IsOnlyOfProgram input.table input.entry stop → Comes (assembled input) (Err (of_stop stop))
  program_stops (stops.Fault f) is only = refuses_only (Fault f) (f, is, refl) (λ r refuses. refuses.2 ∙ ap Fault (only refuses.0 refuses.1)) (λ app gives. gives.0 f is)
  program_stops stops.OutOfMemory is only = out_of_memory _

  pub root_comes : (m : MethodId) → IsRoot input.table input.entry m → ((n : MethodId) → IsRoot input.table input.entry n → n ≡ m) → ((f : InputFault) → IsRootFault input.table input.entry f → ⊥) → Comes (rooted input) (Ok m)
  root_comes m is only none = gives_only m (none, is) (λ n gives. only n gives.1) (λ r refuses. none refuses.0 refuses.1)

  pub root_stops : (stop : Stop) → RootRefused input.table input.entry stop → IsOnlyRootFault input.table input.entry stop → Comes (rooted input) (Err (of_stop stop))
  root_stops (stops.Fault f) is only = refuses_only (Fault f) (f, is, refl) (λ r refuses. refuses.2 ∙ ap Fault (only refuses.0 refuses.1)) (λ m gives. gives.0 f is)
  root_stops stops.OutOfMemory is only = out_of_memory _

  pub calls_come : (root : MethodId) (g : CallGraph) → IsCallGraph input.table input.lists root g → ((other : CallGraph) → IsCallGraph input.table input.lists root other → other ≡ g) → Comes (called input root) (Ok g)
  calls_come root g is only = gives_only g is only (λ r refuses. refuses)

-- the leaks that are listed name only the program's own
pub own_listed : (code : Code) (k : ℕ) (marks : List Leak) → Lists (IsLeak (machine k code)) marks → ((l : Leak) → IsLeak (machine k code) l → OwnLeak code l) → All (OwnLeak code) marks
own_listed code k marks listed own i d below = own (get_or marks i d) (listed.sound (get_or marks i d) (Contains-get_or marks i d below))

module _ (tuning : Tuning) (app : App) where
  -- a program isn't both within its room for path edges and past it
  not_both : IsOver tuning app → (o : Output) → IsReport tuning app o → ⊥
  not_both more o is = omega (arith, no_count (IsEdge (machine_of tuning.k app)) tuning.max_edges more is.edges is.reports.counted, is.within)

  -- no other report is one
  abbrev pub IsOneReport : Output → Type 0
  IsOneReport o = (n : ℕ) (text : List ℕ) (leaky : Bool) → Reports (machine_of tuning.k app) app n text leaky → (text ≡ o.text) × (leaky ≡ o.leaky)

  pub report_comes : (o : Output) → IsReport tuning app o → IsOneReport o → Comes (reported tuning app) (Ok o)
  report_comes o is only =
      gives_only o is (λ q again. let one = only again.edges q.text q.leaky again.reports in let texts = one.0 in let marks = one.1 in λ i. record { text = texts i; leaky = marks i })
      (λ r refuses. not_both refuses.0 o is)

  -- why a solver stops is why there is no report
  pub commit_stops : (limit : ℕ) → limit ≡ tuning.max_edges → (stop : CommitStop) → IsRefused (machine_of tuning.k app) limit stop → Comes (reported tuning app) (Err (of_commit stop))
  commit_stops limit is (commits.EdgeLimit found) refused =
      let over : IsOver tuning app = subst (HasMoreThan (IsEdge (machine_of tuning.k app))) is refused.0 in
      let one : found ≡ tuning.max_edges + 1 = refused.2 ∙ ap (λ (n : ℕ). n + 1) is in
      refuses_only (EdgeLimit found) (over, ap EdgeLimit one) (λ r refuses. refuses.1 ∙ sym (ap EdgeLimit one)) (λ o report. not_both over o report)
  commit_stops limit is commits.OutOfMemory refused = out_of_memory _

module _ (cs : List Class) where
  pub table_comes : ((f : InputFault) → IsClassFault cs f → ⊥) → Comes (tabled cs) (Ok cs)
  table_comes none = gives_only cs (none, refl) (λ table gives. gives.1) (λ r refuses. none refuses.0 refuses.1)

  pub table_stops : (stop : Stop) → Untabled cs stop → IsOnly cs stop → Comes (tabled cs) (Err (of_stop stop))
  table_stops (stops.Fault f) is only = refuses_only (Fault f) (f, is, refl) (λ r refuses. refuses.2 ∙ ap Fault (only refuses.0 refuses.1)) (λ table gives. gives.0 f is)
  table_stops stops.OutOfMemory is only = out_of_memory _

-- the class that is generated, as text
pub main_printed : (components : List Component) (class : Class) (o : Output) → class ≡ class_of components → o ≡ printed class → Comes (done (printed (class_of components))) (Ok o)
main_printed components class o laid is =
    let e : o ≡ printed (class_of components) = is ∙ ap printed laid in
    subst (λ (p : Output). Comes (done (printed (class_of components))) (Ok p)) (sym e) (is_done (printed (class_of components)))
