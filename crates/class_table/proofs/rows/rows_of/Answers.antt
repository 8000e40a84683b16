use Rattle.std.proofs.Common.{◌≡◌, ◌-◌, ◌++◌, List, ℕ, [], length, replicate, subst, ap, ◌∙◌, arith}
use Rattle.class_table.specs.Hierarchy.{class_names}
use Rattle.class_table.specs.Kinds.{kind_names, AreOwnRows}
use Rattle.class_table.proofs.Rowed.{kinds_known, more_names, are_rows}
use Rattle.class_table.proofs.rows.rows_of.Goals as goal

pub own_rows-requires-clause-known : goal.own_rows-requires-clause-known
own_rows-requires-clause-known c = kinds_known c.args.kind c.args.classes.now c.args.names.now.keys c.requires.keys

pub add_empty-requires : goal.add_empty-requires
add_empty-requires c =
    let count = c.in_ok-rows.ensures.count in
    let more = more_names c.args.classes.now c.requires.distinct in
    let same : length c.args.names.now.keys ≡ length (class_names c.args.classes.now) = ap length c.requires.keys in
    let all = c.len.ensures.len in
    omega (arith, count, more, same, all)

pub returns : goal.returns
returns c =
    let cs = c.args.classes.now in
    let own = c.in_ok-rows.rows.items in
    let are : AreOwnRows (class_names cs) (kind_names c.args.kind) cs own = subst (λ (l : List (List ℕ)). AreOwnRows l (kind_names c.args.kind) cs own) c.requires.keys c.in_ok-rows.ensures in
    let all : c.len.result ≡ length (class_names cs) = c.len.ensures.len ∙ ap length c.requires.keys in
    are_rows cs (kind_names c.args.kind) own c.requires.distinct c.add_empty.new.rows.items are
    (c.in_ok-add_empty.ensures ∙ ap (λ (n : ℕ). own ++ replicate (n - length own) []) all)
