-- The files that texts, halts and refusals name are among so many.
use Rattle.std.proofs.Common.{zero, suc, ℕ, ◌<◌, ◌≤◌, List, [], ◌∷◌, length, All, Option, Some, None, IfSome, Err, inl, inr, sym, subst, arith}
use Rattle.std.proofs.lemmas.List.Elements.{All-weaker, All-head, All-tail, All-contains}
use Rattle.clean_base.specs.declared.fault.InputFault.{InputFault}
use Rattle.clean_base.specs.declared.read.ReadStop.{ReadStop}
use Rattle.clean_base.specs.declared.read.ReadStop.TheVariants as stops
use Rattle.clean_stage.proofs.Stages.{refuses_both, refuses_every}
use Rattle.clean_stage.specs.Stage.{Comes, Settles}
use Rattle.clean_stage.specs.declared.halt.Halt.{Halt}
use Rattle.clean_stage.specs.declared.halt.Halt.TheVariants.{Refused, OutOfMemory}
use Rattle.clean_stage.specs.declared.halt.Refusal.{Refusal}
use Rattle.clean_stage.specs.declared.halt.Refusal.TheVariants.{Fault, EdgeLimit}
use Rattle.jimple_lex.specs.Faults.{IsLexical, at_byte, at_open}
use Rattle.jimple_lex.specs.declared.token.Token.{Token}
use Rattle.jimple_text.specs.Reads.{IsFault, Faults, syntax, unsupported, too_many, double_name, unknown_local, unknown_label}
use Rattle.class_table.specs.Faults.{IsFault as IsClassFault, classes, double, cycle, methods, stmts}
use Rattle.field_table.specs.Numbers.{IsFieldFault, fields}
use Rattle.app_program.specs.Entry.{IsRootFault, component, method}
use Rattle.app_program.specs.Faults.{IsFault as IsProgramFault, closed, fields as too_many_fields}
use Rattle.app_program.specs.declared.entry.Entry.{Entry}
use Rattle.command_line.specs.declared.tuning.Tuning.{Tuning}
use Rattle.dummy_main.specs.Listing.{IsLineFault, bad as bad_line, double as double_line}
use Rattle.dummy_main.specs.declared.component.Component.{Component}
use Rattle.jimple_tree.specs.declared.tree.Class.{Class}
use Rattle.list_lines.specs.Lines.{list_lines}
use Rattle.source_sink.specs.Lists.{IsFault as IsListFault}
use Rattle.clean_top.specs.Meaning.{checked, classes_in, classes_of, components_in, entry_in, generated, graphed, input_in, lines_of, serially, work}
use Rattle.clean_top.specs.Reading.{IsOf, AreOf, IsAmong, IsRefusalAmong, IsHaltAmong, file_of, of_read, room_after, room_bytes, text_at}
use Rattle.clean_top.specs.Words.{Fits, list_place, lists_of}
use Rattle.clean_top.specs.declared.read.ReadHalt.{ReadHalt}
use Rattle.clean_top.specs.declared.read.ReadHalt.TheVariants as halts
use Rattle.clean_top.specs.declared.read.Room.{Room}
use Rattle.clean_top.specs.declared.read.Room.TheVariants.{Shared, Each}
use Rattle.clean_top.specs.declared.read.Text.{Text}
use Rattle.clean_top.specs.declared.read.Texts.{Texts}
use Rattle.clean_top.specs.declared.task.Command.{Command}
use Rattle.clean_top.specs.declared.task.Start.{Start}
use Rattle.clean_top.specs.declared.task.Start.TheVariants as starts
use Rattle.clean_top.specs.declared.task.Task.{Task}
use Rattle.clean_top.specs.declared.task.Task.TheVariants.{Check, Main, Graph, Serial}

pub room_less : (room : Room) (used : ℕ) → room_bytes (room_after room used) ≤ room_bytes room
room_less (Shared left) used = omega arith
room_less (Each room) used = omega arith

-- a command that fits names few files
few_places : (start : Start) → list_place start ≤ 1
few_places (starts.Method sig) = omega arith
few_places starts.Components = omega arith

few_lists : (task : Task) → lists_of task ≤ 2
few_lists Check = omega arith
few_lists Main = omega arith
few_lists (Graph start) = omega (arith, few_places start)
few_lists (Serial start tuning) = omega (arith, few_places start)

pub has_few : (command : Command) → Fits command → (length command.names.classes ≤ 4096) × (length command.names.lists ≤ 4)
has_few command fits = (fits.classes, omega (arith, fits.lists, few_lists command.task))

-- one of some files is one of more
module _ (m n : ℕ) (more : m ≤ n) where
  some_more : (file : Option ℕ) → IfSome file (λ f. f < m) → IfSome file (λ f. f < n)
  some_more (Some f) below = omega (arith, more, below)
  some_more None below = tt

  pub halt_more : (h : ReadHalt) → IsHaltAmong m h → IsHaltAmong n h
  halt_more (halts.Halt (Refused (Fault f))) among = some_more (file_of f) among
  halt_more (halts.Halt (Refused (EdgeLimit found))) among = tt
  halt_more (halts.Halt OutOfMemory) among = tt
  halt_more (halts.ReadFault file) among = tt

  pub texts_more : (texts : List Text) → All (IsOf m) texts → All (IsOf n) texts
  texts_more texts all = All-weaker (IsOf m) (IsOf n) (λ t is. record { below = omega (arith, more, is.below); short = is.short }) texts all

pub read_among : (n file : ℕ) (stop : ReadStop) → file < n → IsHaltAmong n (of_read stop file)
read_among n file stops.ReadFault below = tt
read_among n file (stops.TooLong at) below = below
read_among n file stops.OutOfMemory below = tt

-- a text's faults name its file
module _ (n number : ℕ) (bytes : List ℕ) (below : number < n) where
  lexical_among : {f : InputFault} → IsLexical number bytes f → IsAmong n f
  lexical_among (at_byte is) = omega (arith, is.in_file, below)
  lexical_among (at_open is) = omega (arith, is.in_file, below)

  token_among : {tokens : List Token} {f : InputFault} → Faults bytes tokens number f → IsAmong n f
  token_among (syntax is) = below
  token_among (unsupported is) = below
  token_among (too_many is) = below
  token_among (double_name is) = below
  token_among (unknown_local is) = below
  token_among (unknown_label is) = below

  fault_among : (f : InputFault) → IsFault number bytes f → IsAmong n f
  fault_among f is = elim is [ inl lexical ↦ lexical_among lexical | inr told ↦ token_among told.2 ]

-- a fault of classes names no file
table_among : (n : ℕ) {cs : List Class} {f : InputFault} → IsClassFault cs f → IsAmong n f
table_among n (classes many) = tt
table_among n (double few is) = tt
table_among n (cycle few names is) = tt
table_among n (methods few names acyclic many) = tt
table_among n (stmts few names acyclic less many) = tt

-- nor does one of an entry or of a program
root_among : (n : ℕ) {cs : List Class} {entry : Entry} {f : InputFault} → IsRootFault cs entry f → IsAmong n f
root_among n (component name first) = tt
root_among n (method known none) = tt

field_among : (n : ℕ) {cs : List Class} {f : InputFault} → IsFieldFault cs f → IsAmong n f
field_among n (fields many) = tt

program_among : (n : ℕ) {cs : List Class} {entry : Entry} {f : InputFault} → IsProgramFault cs entry f → IsAmong n f
program_among n (closed f is) = root_among n is
program_among n (too_many_fields m root f is) = field_among n is

-- one of a list names its file
list_among : (n file : ℕ) (text : List ℕ) (f : InputFault) → file < n → IsListFault file (list_lines text) f → IsAmong n f
list_among n file text f below is = let first = is.first in let bad = first.is in subst (IsAmong n) (sym bad.is) below

component_among : (n file number : ℕ) (cs : List Component) (line : List ℕ) {f : InputFault} → file < n → IsLineFault file number cs line f → IsAmong n f
component_among n file number cs line below (bad_line why) = below
component_among n file number cs line below (double_line again) = below

module _ (n : ℕ) (some : 0 < n) where
  classes_among : (text : Text) → text.file < n → (r : Refusal) → (classes_of text).refuses r → IsRefusalAmong n r
  classes_among text below r refuses = subst (IsRefusalAmong n) (sym refuses.2) (fault_among n text.file text.bytes below refuses.0 refuses.1)

  lines_among : (text : Text) → text.file < n → (r : Refusal) → (lines_of text).refuses r → IsRefusalAmong n r
  lines_among text below r refuses = subst (IsRefusalAmong n) (sym refuses.2) (list_among n text.file text.bytes refuses.0 below refuses.1)

  components_among : (text : Text) → text.file < n → (r : Refusal) → (components_in text).refuses r → IsRefusalAmong n r
  components_among text below r refuses = subst (IsRefusalAmong n) (sym refuses.2) (let is = refuses.1 in let first = is.first in component_among n text.file _ first.listed first.line below first.is)

  text_below : (texts : List Text) → All (IsOf n) texts → (i : ℕ) → (text_at texts i).file < n
  text_below [] all i = some
  text_below (t ∷ ts) all zero = let is = All-head (IsOf n) t ts all in is.below
  text_below (t ∷ ts) all (suc i) = text_below ts (All-tail (IsOf n) t ts all) i

  each_among : (texts : List Text) → All (IsOf n) texts → (r : Refusal) → (classes_in texts).refuses r → IsRefusalAmong n r
  each_among texts all =
      let P = IsRefusalAmong n in
      refuses_both P _ (refuses_every P classes_of texts (λ t has. classes_among t (let is = All-contains (IsOf n) texts t all has in is.below))) (λ files read r refuses. absurd refuses)

  entry_among : (start : Start) (lists : List Text) → All (IsOf n) lists → (r : Refusal) → (entry_in start lists).refuses r → IsRefusalAmong n r
  entry_among (starts.Method sig) lists all r refuses = absurd refuses
  entry_among starts.Components lists all r refuses =
      refuses_both (IsRefusalAmong n) _ (components_among (text_at lists 0) (text_below lists all 0)) (λ components are s never. absurd never) r refuses

  input_among : (start : Start) (texts : Texts) → AreOf n texts → (r : Refusal) → (input_in start texts).refuses r → IsRefusalAmong n r
  input_among start texts of =
      let P = IsRefusalAmong n in
      refuses_both P _ (each_among texts.classes of.classes)
      (λ cs read. refuses_both P _ (entry_among start texts.lists of.lists)
      (λ entry is. refuses_both P _ (lines_among (text_at texts.lists (list_place start)) (text_below texts.lists of.lists (list_place start)))
      (λ ls are. refuses_both P _ (λ r why. subst P (sym why.2) (table_among n why.1))
      (λ table has r refuses. absurd refuses))))

  serially_among : (start : Start) (tuning : Tuning) (texts : Texts) → AreOf n texts → (r : Refusal) → (serially start tuning texts).refuses r → IsRefusalAmong n r
  serially_among start tuning texts of =
      let P = IsRefusalAmong n in
      refuses_both P _ (input_among start texts of)
      (λ input is. refuses_both P _ (λ r why. subst P (sym why.2) (program_among n why.1))
      (λ app made r over. subst P (sym over.1) tt))

  graphed_among : (start : Start) (texts : Texts) → AreOf n texts → (r : Refusal) → (graphed start texts).refuses r → IsRefusalAmong n r
  graphed_among start texts of =
      let P = IsRefusalAmong n in
      refuses_both P _ (input_among start texts of)
      (λ input is. refuses_both P _ (λ r why. subst P (sym why.2) (root_among n why.1))
      (λ root entered. refuses_both P _ (λ r why. absurd why) (λ g from r refuses. absurd refuses)))

  checked_among : (texts : Texts) → AreOf n texts → (r : Refusal) → (checked texts).refuses r → IsRefusalAmong n r
  checked_among texts of =
      let P = IsRefusalAmong n in
      refuses_both P _ (each_among texts.classes of.classes)
      (λ cs read. refuses_both P _ (λ r why. subst P (sym why.2) (table_among n why.1)) (λ table has r refuses. absurd refuses))

  generated_among : (texts : Texts) → AreOf n texts → (r : Refusal) → (generated texts).refuses r → IsRefusalAmong n r
  generated_among texts of = refuses_both (IsRefusalAmong n) _ (components_among (text_at texts.lists 0) (text_below texts.lists of.lists 0)) (λ components are r refuses. absurd refuses)

  pub work_among : (task : Task) (texts : Texts) → AreOf n texts → (r : Refusal) → (work task texts).refuses r → IsRefusalAmong n r
  work_among Check texts of = checked_among texts of
  work_among Main texts of = generated_among texts of
  work_among (Graph start) texts of = graphed_among start texts of
  work_among (Serial start tuning) texts of = serially_among start tuning texts of

  pub work_halts_among : (task : Task) (texts : Texts) → AreOf n texts → (h : Halt) → Comes (work task texts) (Err h) → IsHaltAmong n (halts.Halt h)
  work_halts_among task texts of (Refused r) comes = let settles : Settles (work task texts) (Err r) = comes.so in work_among task texts of r settles.out
  work_halts_among task texts of OutOfMemory comes = tt
