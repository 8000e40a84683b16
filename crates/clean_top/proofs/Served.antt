-- What a call says, by what it came to.
use Rattle.std.proofs.Common.{◌≡◌, ◌⊎◌, ℕ, Bool, true, false, List, length, Result, Ok, Err, inl, inr, refl, sym, ap, subst}
use Rattle.clean_base.specs.Device.{Rose, AppendsFirst}
use Rattle.clean_stage.specs.Stage.{Out, Settles}
use Rattle.clean_stage.specs.declared.halt.Halt.TheVariants.{Refused, OutOfMemory as NoMemory}
use Rattle.clean_stage.specs.declared.halt.Refusal.{Refusal}
use Rattle.clean_stage.specs.declared.halt.Refusal.TheVariants as refusals
use Rattle.clean_top.specs.Answer.{Run, Holds, IsMeant, Wrote, Says, Serves, Answers, Writes, OrMemory, halted, whole}
use Rattle.clean_top.specs.Meaning.{means}
use Rattle.clean_top.specs.Reading.{IsFaultAt, IsHaltAmong, Reads}
use Rattle.clean_top.specs.Words.{in_order}
use Rattle.clean_top.specs.declared.output.Output.{Output}
use Rattle.clean_top.specs.declared.read.ReadHalt.{ReadHalt}
use Rattle.clean_top.specs.declared.read.ReadHalt.TheVariants as halts
use Rattle.clean_top.specs.declared.status.Status.{Status}
use Rattle.clean_top.specs.declared.status.Status.TheVariants.{Clean, Leaks, Usage, Input, EdgeLimit, ReadFault, WriteFault, OutOfMemory}
use Rattle.clean_top.specs.declared.task.Command.{Command}

module _ (run : Run) (command : Command) where
  -- the answers that may come whatever is meant
  no_memory : (r : Result Output Refusal) → Answers run r OutOfMemory
  no_memory (Ok o) = inr (inr (inr refl))
  no_memory (Err (refusals.Fault f)) = inr (inr refl)
  no_memory (Err (refusals.EdgeLimit found)) = inr (inr refl)

  read_fault : (file : ℕ) (r : Result Output Refusal) → Answers run r (ReadFault file)
  read_fault file (Ok o) = inr (inl (file, refl))
  read_fault file (Err (refusals.Fault f)) = inr (inl (file, refl))
  read_fault file (Err (refusals.EdgeLimit found)) = inr (inl (file, refl))

  abbrev IsOnly : Status → Type 0
  IsOnly s = (files : List ℕ → List ℕ) → Holds run command files → (r : Result Output Refusal) → Out (means command files) r → Answers run r s

  -- what is meant is answered, and no other answer comes
  only_ended : (o : Output) (s : Status) → IsMeant run command (Ok o) → Answers run (Ok o) s → IsOnly s
  only_ended o s meant answers files holds r out =
      let settles : Settles (means command files) (Ok o) = (meant files holds).so in
      subst (λ (q : Result Output Refusal). Answers run q s) (sym (settles.only r out)) answers

  only_refused : (f : Refusal) (s : Status) → IsMeant run command (Err (Refused f)) → Answers run (Err f) s → IsOnly s
  only_refused f s meant answers files holds r out =
      let settles : Settles (means command files) (Err f) = (meant files holds).so in
      subst (λ (q : Result Output Refusal). Answers run q s) (sym (settles.only r out)) answers

  wrote_whole : (o : Output) (leaky : Bool) → o.leaky ≡ leaky → Wrote run command o (length o.text) → Serves run command (whole leaky)
  wrote_whole o true is wrote = record { said = (o, is, wrote); only = only_ended o Leaks wrote.meant (inl (ap whole (sym is), wrote.taken)) }
  wrote_whole o false is wrote = record { said = (o, is, wrote); only = only_ended o Clean wrote.meant (inl (ap whole (sym is), wrote.taken)) }

  whole_only : (o : Output) (s : Status) → IsMeant run command (Ok o) → (s ≡ whole o.leaky) × AppendsFirst run.old run.new (length o.text) o.text → Serves run command s
  whole_only o s meant wrote = subst (Serves run command) (sym wrote.0) (wrote_whole o o.leaky refl (record { meant = meant; taken = wrote.1 }))

  -- the output is written, or a part of it
  written : (o : Output) (s : Status) → IsMeant run command (Ok o) → Writes run.old run.new run.first run.last o s → Serves run command s
  written o (WriteFault n) meant wrote = record {
    said = (wrote.0, (o, wrote.1, record { meant = meant; taken = wrote.2 }));
    only = only_ended o (WriteFault n) meant (inr (inr (inl (n, refl))));
  }
  written o Clean meant wrote = whole_only o Clean meant wrote
  written o Leaks meant wrote = whole_only o Leaks meant wrote
  written o Usage meant wrote = whole_only o Usage meant wrote
  written o (Input f) meant wrote = whole_only o (Input f) meant wrote
  written o (EdgeLimit found) meant wrote = whole_only o (EdgeLimit found) meant wrote
  written o (ReadFault file) meant wrote = whole_only o (ReadFault file) meant wrote
  written o OutOfMemory meant wrote = whole_only o OutOfMemory meant wrote

  pub free : run.new ≡ run.old → Serves run command OutOfMemory
  free same = record { said = same; only = λ files holds r out. no_memory r }

  -- nothing is written
  nothing : (h : ReadHalt) → run.new ≡ run.old → Reads run.holds run.before run.now (in_order command.names) 0 (means command) (Err h) → IsHaltAmong (length (in_order command.names)) h → Serves run command (halted h)
  nothing (halts.ReadFault file) same reads among = record { said = (same, reads.so); only = λ files holds r out. read_fault file r }
  nothing (halts.Halt NoMemory) same reads among = free same
  nothing (halts.Halt (Refused (refusals.Fault f))) same reads among = record { said = (same, reads.so, among); only = only_refused (refusals.Fault f) (Input f) reads.so (inl refl) }
  nothing (halts.Halt (Refused (refusals.EdgeLimit n))) same reads among = record { said = (same, reads.so); only = only_refused (refusals.EdgeLimit n) (EdgeLimit n) reads.so (inl refl) }

  -- a call that read and worked so, and finished so
  pub ends : (o : Output) (s : Status) → Reads run.holds run.before run.now (in_order command.names) 0 (means command) (Ok o) → Writes run.old run.new run.first run.last o s → Serves run command s
  ends o s reads writes = written o s reads.so writes

  pub halts_so : (h : ReadHalt) (s : Status) → Reads run.holds run.before run.now (in_order command.names) 0 (means command) (Err h) → IsHaltAmong (length (in_order command.names)) h → run.new ≡ run.old → s ≡ halted h → Serves run command s
  halts_so h s reads among same is = subst (Serves run command) (sym is) (nothing h same reads among)

  -- want of memory for the line, in place of the line
  pub or_memory : (s t : Status) → OrMemory s t → Serves run command s → Serves run command t
  or_memory (Input f) t or serves = elim or [
    | inl same ↦ subst (Serves run command) (sym same) serves
    | inr memory ↦ subst (Serves run command) (sym memory) (free serves.said.0)
  ]
  or_memory (ReadFault file) t or serves = elim or [
    | inl same ↦ subst (Serves run command) (sym same) serves
    | inr memory ↦ subst (Serves run command) (sym memory) (free serves.said.0)
  ]
  or_memory Clean t same serves = subst (Serves run command) (sym same) serves
  or_memory Leaks t same serves = subst (Serves run command) (sym same) serves
  or_memory Usage t same serves = subst (Serves run command) (sym same) serves
  or_memory (EdgeLimit found) t same serves = subst (Serves run command) (sym same) serves
  or_memory (WriteFault written) t same serves = subst (Serves run command) (sym same) serves
  or_memory OutOfMemory t same serves = subst (Serves run command) (sym same) serves

  -- completeness: where an output is meant and no device failed, it is written whole, or memory ran out
  pub complete : (files : List ℕ → List ℕ) (o : Output) (s : Status) → Serves run command s → Holds run command files → Out (means command files) (Ok o)
      → ((file : ℕ) → IsFaultAt run.before run.now (in_order command.names) 0 file → ⊥) → (Rose run.first run.last → ⊥)
      → ((s ≡ whole o.leaky) × AppendsFirst run.old run.new (length o.text) o.text) ⊎ (s ≡ OutOfMemory)
  complete files o s serves holds out no_fault no_write = elim (serves.only files holds (Ok o) out) [
    | inl is ↦ inl is
    | inr rest ↦ elim rest [
      | inl read ↦ absurd (no_fault read.0 (let said = subst (Says run command) read.1 serves.said in said.1))
      | inr more ↦ elim more [
        | inl wrote ↦ absurd (no_write (let said = subst (Says run command) wrote.1 serves.said in said.0))
        | inr memory ↦ inr memory
      ]
    ]
  ]

-- two calls on files that hold the same write the same bytes
pub same_bytes : (run again : Run) (command : Command) (files : List ℕ → List ℕ) → Holds run command files → Holds again command files
    → (o p : Output) → Wrote run command o (length o.text) → Wrote again command p (length p.text) → o ≡ p
same_bytes run again command files tells retells o p one other =
    let settles : Settles (means command files) (Ok p) = (other.meant files retells).so in
    let first : Settles (means command files) (Ok o) = (one.meant files tells).so in
    let same = settles.only (Ok o) first.out in
    cc
