use Rattle.std.proofs.Common.{codes, refl}
use Rattle.command_line.specs.Input.{IsInput}
use Rattle.command_line.specs.Serial.{IsSerial, serial_options}
use Rattle.command_line.specs.Tuning.{IsTuning}
use Rattle.command_line.specs.Words.{Given, IsOnly}
use Rattle.command_line.specs.Written.{IsFit}
use Rattle.command_line.specs.declared.input.Input.{Input}
use Rattle.command_line.specs.declared.tuning.Tuning.{Tuning}
use Rattle.command_line.proofs.Asked.{asked_only, not_asked}
use Rattle.command_line.proofs.serial.read_serial.Goals as goal

fit : IsFit (codes "serial") serial_options
fit = record { simple = refl; built_so = refl; names = refl }

only : (given : Given) (input : Input) (tuning : Tuning) → IsOnly (IsInput given) input → IsOnly (IsTuning given) tuning → IsOnly (IsSerial given) (record { input = input; tuning = tuning })
only given input tuning i t = record {
  is = record { input = i.is; tuning = t.is };
  only = λ other o.
      let input_same = i.only other.input o.input in
      let tuning_same = t.only other.tuning o.tuning in
      λ k. record { input = input_same k; tuning = tuning_same k };
}

pub returns-in_default-clause-none : goal.returns-in_default-clause-none
returns-in_default-clause-none c = λ serial asks. (rw c.in_default.is at c.in_ok-line.ensures.none fit) asks.given asks.gives

pub returns-in_default-tuning_of-clause-none : goal.returns-in_default-tuning_of-clause-none
returns-in_default-tuning_of-clause-none c =
    let gives = rw c.in-Some.is at c.in_ok-line.ensures.some fit in
    not_asked (codes "serial") serial_options c.args.words.now IsSerial _ gives (λ serial is. c.in_default-tuning_of.ensures.none serial.tuning is.tuning)

pub returns-in_default-2-clause-none : goal.returns-in_default-2-clause-none
returns-in_default-2-clause-none c =
    let gives = rw c.in-Some.is at c.in_ok-line.ensures.some fit in
    let none = rw c.in_default-2.is at c.in_ok-input.ensures.none in
    not_asked (codes "serial") serial_options c.args.words.now IsSerial _ gives (λ serial is. none serial.input is.input)

pub returns-clause-some : goal.returns-clause-some
returns-clause-some c =
    let gives = rw c.in-Some.is at c.in_ok-line.ensures.some fit in
    let input = rw c.in-Some-2.is at c.in_ok-input.ensures.some in
    asked_only (codes "serial") serial_options c.args.words.now IsSerial _ gives _ (only _ _ _ input c.in-Some-tuning_of.ensures.some)
