-- The words of `replay` (docs/COMMANDS.md, "Words").
use Rattle.std.specs.Prelude.{◌≡◌, List, [], ◌∷◌, ◌++◌, Some, codes}
use Rattle.command_line.specs.Words.{Asks, Given, Text}
use Rattle.command_line.specs.Input.{IsInput, input_options}
use Rattle.command_line.specs.Tuning.{IsNumber, IsTuning, tuning_options}
use Rattle.command_line.specs.declared.replay.Replay.{Replay}

abbrev pub replay_options : List Text
replay_options = input_options ++ (tuning_options ++ (codes "schedule" ∷ codes "workers" ∷ []))

-- a program, numbers, a schedule, and 1 to 64 workers
pub record IsReplay (given : Given) (replay : Replay) : Type 0 where
  pub input : IsInput given replay.input
  pub tuning : IsTuning given replay.tuning
  pub schedule : given.value (codes "schedule") ≡ Some replay.schedule
  pub workers : IsNumber 1 64 1 (given.value (codes "workers")) replay.workers

-- `replay (--entry SIGNATURE | --components FILE) --lists FILE --schedule FILE [--workers N] [--k N] [--period N] [--max-edges N] FILE..`
abbrev pub AsksReplay : List Text → Replay → Type 0
AsksReplay words replay = Asks (codes "replay") replay_options words (λ given. IsReplay given replay)
