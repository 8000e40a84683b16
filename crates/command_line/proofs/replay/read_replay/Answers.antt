use Rattle.std.proofs.Common.{◌≡◌, ◌∙◌, ℕ, Option, Some, None, ap, codes, refl, subst, sym, unwrap_or}
use Rattle.command_line.specs.Input.{IsInput}
use Rattle.command_line.specs.Replay.{IsReplay, replay_options}
use Rattle.command_line.specs.Tuning.{IsNumber, IsTuning}
use Rattle.command_line.specs.Words.{Given, IsOnly, Text}
use Rattle.command_line.specs.Written.{IsFit}
use Rattle.command_line.specs.declared.input.Input.{Input}
use Rattle.command_line.specs.declared.tuning.Tuning.{Tuning}
use Rattle.command_line.proofs.Asked.{asked_only, not_asked}
use Rattle.command_line.proofs.Exact.{some_not_none}
use Rattle.command_line.proofs.replay.read_replay.Goals as goal

fit : IsFit (codes "replay") replay_options
fit = record { simple = refl; built_so = refl; names = refl }

one_number : (text : Option Text) (n m : ℕ) → IsNumber 1 64 1 text n → IsNumber 1 64 1 text m → n ≡ m
one_number None n m is also = is ∙ sym also
one_number (Some text) n m is also = is.0.value ∙ sym also.0.value

only : (given : Given) (input : Input) (tuning : Tuning) (schedule : Text) (workers : ℕ) → IsOnly (IsInput given) input → IsOnly (IsTuning given) tuning
    → given.value (codes "schedule") ≡ Some schedule → IsNumber 1 64 1 (given.value (codes "workers")) workers
    → IsOnly (IsReplay given) (record { input = input; tuning = tuning; schedule = schedule; workers = workers })
only given input tuning schedule workers i t s w = record {
  is = record { input = i.is; tuning = t.is; schedule = s; workers = w };
  only = λ other o.
      let input_same = i.only other.input o.input in
      let tuning_same = t.only other.tuning o.tuning in
      let schedule_same = ap (λ v. unwrap_or v schedule) (sym o.schedule ∙ s) in
      let workers_same = one_number (given.value (codes "workers")) other.workers workers o.workers w in
      λ k. record { input = input_same k; tuning = tuning_same k; schedule = schedule_same k; workers = workers_same k };
}

pub returns-in_default-clause-none : goal.returns-in_default-clause-none
returns-in_default-clause-none c = λ replay asks. (rw c.in_default.is at c.in_ok-line.ensures.none fit) asks.given asks.gives

pub returns-in_default-tuning_of-clause-none : goal.returns-in_default-tuning_of-clause-none
returns-in_default-tuning_of-clause-none c =
    let gives = rw c.in-Some.is at c.in_ok-line.ensures.some fit in
    not_asked (codes "replay") replay_options c.args.words.now IsReplay _ gives (λ replay is. c.in_default-tuning_of.ensures.none replay.tuning is.tuning)

pub returns-in_default-number_given-clause-none : goal.returns-in_default-number_given-clause-none
returns-in_default-number_given-clause-none c =
    let gives = rw c.in-Some.is at c.in_ok-line.ensures.some fit in
    not_asked (codes "replay") replay_options c.args.words.now IsReplay _ gives
    (λ replay is. c.in_default-number_given.ensures.none replay.workers (subst (λ (text : Option Text). IsNumber 1 64 1 text replay.workers) (sym (c.value_of.ensures refl)) is.workers))

pub returns-in_default-value_of-clause-none : goal.returns-in_default-value_of-clause-none
returns-in_default-value_of-clause-none c =
    let gives = rw c.in-Some.is at c.in_ok-line.ensures.some fit in
    not_asked (codes "replay") replay_options c.args.words.now IsReplay _ gives
    (λ replay is. some_not_none replay.schedule (sym is.schedule ∙ sym (c.in_default-value_of.ensures refl)))

pub returns-in_default-2-clause-none : goal.returns-in_default-2-clause-none
returns-in_default-2-clause-none c =
    let gives = rw c.in-Some.is at c.in_ok-line.ensures.some fit in
    let none = rw c.in_default-2.is at c.in_ok-input.ensures.none in
    not_asked (codes "replay") replay_options c.args.words.now IsReplay _ gives (λ replay is. none replay.input is.input)

pub returns-clause-some : goal.returns-clause-some
returns-clause-some c =
    let gives = rw c.in-Some.is at c.in_ok-line.ensures.some fit in
    let input = rw c.in-Some-2.is at c.in_ok-input.ensures.some in
    let workers = subst (λ (text : Option Text). IsNumber 1 64 1 text c.in-Some-number_given.workers) (c.value_of.ensures refl) c.in-Some-number_given.ensures.some in
    let schedule = sym (c.in-Some-value_of.ensures refl) ∙ ap Some (sym c.in_ok-schedule.ensures) in
    asked_only (codes "replay") replay_options c.args.words.now IsReplay _ gives _ (only _ _ _ _ _ input c.in-Some-tuning_of.ensures.some schedule workers)
