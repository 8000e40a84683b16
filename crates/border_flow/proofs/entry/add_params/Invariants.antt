use Rattle.clean_base.specs.Lists.{AppendsSet}
use Rattle.border_flow.specs.Parts.{EntersFirst}
use Rattle.border_flow.proofs.entry.add_params.Given as goal

abbrev pub invariant-loop-i : goal.invariant-loop-i
invariant-loop-i l = AppendsSet (EntersFirst l.args l.i l.t l.x) l.fn.out.items l.out.items
