use Rattle.std.proofs.Common.{List, ℕ, ◌++◌, flat_map, ◌∙◌, ap}
use Rattle.leak_report.specs.Report.{path_text, step_text}
use Rattle.leak_report.proofs.report.path_of.Goals as goal

pub returns : goal.returns
unfolding path_text
returns c =
    let local = rw (c.new-path.ensures.items, c.method_of.ensures.is) at c.in_ok-write_local.ensures in
    let steps = flat_map (step_text c.args.program.now) c.args.leak.fields in
    c.from_vec.ensures ∙ c.in_ok-write_steps.ensures ∙ ap (λ (text : List ℕ). text ++ steps) local
