use Rattle.std.proofs.Common.{◌∙◌, [], ◌∷◌, false, true, ℕ, List, set, sym, subst}
use Rattle.std.proofs.lemmas.List.{get_or_default}
use Rattle.clean_base.specs.Lists.{At}
use Rattle.reach_rows.specs.Cycles.{IsAdded}
use Rattle.reach_rows.proofs.Floods.{added_new}
use Rattle.reach_rows.proofs.cycle.Flood.add.Goals as goal

pub returns : goal.returns
returns c =
    let s = c.args.self.now in
    let seen = s.seen.items in
    let at : At seen c.args.node false = (c.requires, get_or_default seen c.args.node false c.index.result.now c.requires ∙ sym c.index.ensures ∙ c.if-index.false) in
    subst (λ (after : List ℕ). IsAdded (c.args.node ∷ []) seen s.waiting.items (set seen c.args.node true) after) (sym c.in_ok-push.ensures.items) (added_new seen s.waiting.items c.args.node at)
