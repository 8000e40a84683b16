use Rattle.std.proofs.Common.{◌≡◌, suc, ◌++◌, ◌∷◌, [], ap, length, arith, refl, get_or}
use Rattle.std.proofs.lemmas.List.{length_push}
use Rattle.flat_rows.specs.Chains.Linked.{again, fresh}
use Rattle.flat_rows.specs.declared.chains.Link.{Link}
use Rattle.flat_rows.proofs.chains.add_link.Goals as goal

pub returns-then-again : goal.returns-then-again
returns-then-again c =
    let (ps, begins) = c.if-again.ensures.yes refl in
    again ps (rw c.as_slice.ensures.value at begins)

pub returns : goal.returns
returns c =
    let heads = c.args.heads.now in
    let links = c.args.links.now.items in
    let link : Link = record { node = c.args.node; next = get_or heads c.args.at 0 } in
    let grown : c.push.new.self.items ≡ links ++ link ∷ [] = c.in_ok-push.ensures.items in
    let long : c.len.result ≡ suc (length links) = omega (arith, c.push.new.self.ok.0, ap length grown, length_push links link) in
    rw (long, grown) (fresh link refl refl (rw c.as_slice.ensures.value at (c.if-again.ensures.no refl)))
