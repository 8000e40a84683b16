-- The words of `serial` (docs/COMMANDS.md, "Words").
use Rattle.std.specs.Prelude.{List, ◌++◌, codes}
use Rattle.command_line.specs.Words.{Asks, Given, Text}
use Rattle.command_line.specs.Input.{IsInput, input_options}
use Rattle.command_line.specs.Tuning.{IsTuning, tuning_options}
use Rattle.command_line.specs.declared.serial.Serial.{Serial}

abbrev pub serial_options : List Text
serial_options = input_options ++ tuning_options

-- a program and numbers
pub record IsSerial (given : Given) (serial : Serial) : Type 0 where
  pub input : IsInput given serial.input
  pub tuning : IsTuning given serial.tuning

-- `serial (--entry SIGNATURE | --components FILE) --lists FILE [--k N] [--period N] [--max-edges N] FILE..`
abbrev pub AsksSerial : List Text → Serial → Type 0
AsksSerial words serial = Asks (codes "serial") serial_options words (λ given. IsSerial given serial)
