use Rattle.std.proofs.Common.{◌≡◌, ◌<◌, ℕ, List, [], length, get_or, subst, sym, ap, ◌∙◌}
use Rattle.std.proofs.lemmas.List.{get_or_default}
use Rattle.class_table.specs.Faults.{IsFirstCycle, cycle}
use Rattle.class_table.specs.Hierarchy.{class_names}
use Rattle.class_table.specs.Links.{name_at}
use Rattle.class_table.proofs.links.cycle.Goals as goal

pub returns-in-Ok : goal.returns-in-Ok
returns-in-Ok c =
    let cs = c.args.classes.now in
    let n = c.args.number in
    let found = c.index-as_slice-number.result in
    let within : n < length (class_names cs) = subst (λ (l : List (List ℕ)). n < length l) c.requires.keys c.requires.number in
    let named : name_at cs n ≡ c.in-Ok.name =
    get_or_default (class_names cs) n [] found within ∙ ap (λ (l : List (List ℕ)). get_or l n found) (sym (c.as_slice.ensures.keys ∙ c.requires.keys)) ∙ sym c.index-as_slice-number.is ∙ sym c.in-Ok.ensures in
    cycle c.requires.few c.requires.distinct (subst (IsFirstCycle cs) named c.requires.cycle)
