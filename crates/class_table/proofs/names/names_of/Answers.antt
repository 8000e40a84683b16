use Rattle.std.proofs.Common.{nat_eq, List, ℕ, flat_map, ap, sym, ◌∙◌, []}
use lib.Pointwise.{pointwise}
use Rattle.std.proofs.lemmas.List.Sums.{fold-append}
use Rattle.indexmap.specs.IndexSet.{insert_key, insert_all}
use Rattle.class_table.specs.Hierarchy.{heading}
use Rattle.class_table.proofs.Doubles.{own, made}
use Rattle.class_table.proofs.names.names_of.Goals as goal

pub returns : goal.returns
returns c =
    let hs = flat_map heading c.args.classes.now in
    let eq = pointwise nat_eq in
    c.in_ok-add_headings.ensures ∙ ap (λ (ks : List (List ℕ)). insert_all eq ks hs) (c.in_ok-add_own.ensures ∙ ap (λ (ks : List (List ℕ)). insert_all eq ks (own c.args.classes.now)) c.new-names.ensures.empty)
    ∙ sym (fold-append (insert_key eq) [] (own c.args.classes.now) hs) ∙ sym (made c.args.classes.now)
