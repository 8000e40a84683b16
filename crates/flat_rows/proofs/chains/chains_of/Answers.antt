use Rattle.std.proofs.Common.{◌≡◌, ◌∙◌, ℕ, List, [], ◌++◌, take, drop, replicate, refl, sym, ap, subst, length, arith, append-nil}
use Rattle.std.proofs.lemmas.List.{drop_all, take_all}
use Rattle.flat_rows.specs.Chains.{LeadsFrom, AreChains}
use Rattle.flat_rows.proofs.Linking.{chains_none}
use Rattle.flat_rows.proofs.chains.chains_of.Goals as goal

pub loop-node-init : goal.loop-node-init
loop-node-init c =
    let rows = c.args.rows.now in
    let count = length rows in
    let node : c.len-node.result ≡ count = c.len-node.ensures in
    let none : c.new-links.result.items ≡ [] = c.new-links.ensures.items in
    let zeros : c.as_mut_slice-heads_slice.result.now ≡ replicate count 0 = c.as_mut_slice-heads_slice.ensures.value ∙ c.in_ok-heads.ensures ∙ ap (λ (n : ℕ). replicate n 0) c.len.ensures in
    rw (node, none) (omega arith, chains_none rows count c.as_mut_slice-heads_slice.result.now refl zeros)

pub returns : goal.returns
returns c =
    let heads = c.loop-node.heads_slice in
    let was = c.in_ok-heads.heads in
    let same : length heads ≡ length was.items = c.loop-node.auto.heads_slice ∙ ap length c.as_mut_slice-heads_slice.ensures.value in
    let none : drop (length heads) was.items ≡ [] = drop_all (length heads) was.items (omega (arith, same)) in
    let whole : take was.len (heads ++ drop (length heads) was.items) ≡ heads = ap (λ (rest : List ℕ). take was.len (heads ++ rest)) none ∙ ap (take was.len) (append-nil heads) ∙ take_all was.len heads (omega (arith, same, was.ok.0)) in
    let zero : c.loop-node.node ≡ 0 = omega (arith, c.loop-node-test.false) in
    subst (λ (hs : List ℕ). AreChains (LeadsFrom c.args.rows.now 0) (length c.args.rows.now) hs c.loop-node.links.items) (sym whole)
    (subst (λ (n : ℕ). AreChains (LeadsFrom c.args.rows.now n) (length c.args.rows.now) heads c.loop-node.links.items) zero c.loop-node.invariant.1)
