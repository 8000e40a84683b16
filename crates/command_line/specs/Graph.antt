-- The words of `graph` (docs/COMMANDS.md, "Words").
use Rattle.std.specs.Prelude.{List, codes}
use Rattle.command_line.specs.Words.{Asks, Text}
use Rattle.command_line.specs.Input.{IsInput, input_options}
use Rattle.command_line.specs.declared.input.Input.{Input}

-- `graph (--entry SIGNATURE | --components FILE) --lists FILE FILE..`
abbrev pub AsksGraph : List Text → Input → Type 0
AsksGraph words input = Asks (codes "graph") input_options words (λ given. IsInput given input)
