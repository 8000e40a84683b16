use Rattle.std.proofs.Common.{codes, refl}
use Rattle.command_line.specs.Input.{IsInput, input_options}
use Rattle.command_line.specs.Written.{IsFit}
use Rattle.command_line.proofs.Asked.{asked_only, none_found, not_asked, some_found}
use Rattle.command_line.proofs.graph.read_graph.Goals as goal

fit : IsFit (codes "graph") input_options
fit = record { simple = refl; built_so = refl; names = refl }

pub returns-in_default-clause-none : goal.returns-in_default-clause-none
returns-in_default-clause-none c = λ input asks. (rw c.in_default.is at c.in_ok-line.ensures.none fit) asks.given asks.gives

pub returns-clause-some : goal.returns-clause-some
returns-clause-some c =
    let gives = rw c.in-Some.is at c.in_ok-line.ensures.some fit in
    some_found c.input_of.result _ _ (asked_only (codes "graph") input_options c.args.words.now IsInput _ gives) c.input_of.ensures.some

pub returns-clause-none : goal.returns-clause-none
returns-clause-none c =
    let gives = rw c.in-Some.is at c.in_ok-line.ensures.some fit in
    none_found c.input_of.result _ _ (not_asked (codes "graph") input_options c.args.words.now IsInput _ gives) c.input_of.ensures.none
