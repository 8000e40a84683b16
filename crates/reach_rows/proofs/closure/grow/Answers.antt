use Rattle.std.proofs.Common.{◌≡◌, ◌≤◌, ℕ, All, length, get_or, arith}
use Rattle.std.proofs.lemmas.List.{get_or_default}
use Rattle.std.proofs.lemmas.List.Elements.{Contains-get_or}
use Rattle.reach_rows.proofs.Words.{pass_falls}
use Rattle.reach_rows.proofs.closure.grow.Goals as goal

pub grow_all-grown-requires-clause-nodes : goal.grow_all-grown-requires-clause-nodes
grow_all-grown-requires-clause-nodes c k d below = (c.requires.nodes (get_or c.args.order.now k d)).0 (Contains-get_or c.args.order.now k d below)

pub loop-grown-preserved : goal.loop-grown-preserved
loop-grown-preserved c =
    let says = c.grow_all-grown.ensures in
    let was = c.loop-grown.invariant in
    record {
      kept = λ a b has. says.grows.kept a b (was.kept a b has);
      sound = λ sound. says.sound (was.sound sound);
      closed = λ none a below. says.closed none a ((c.requires.nodes a).1 below);
    }

pub loop-grown-smaller : goal.loop-grown-smaller
loop-grown-smaller c =
    let new = c.grow_all-grown.new.bits in
    let old = c.loop-grown.bits in
    let each : All (λ (w : ℕ). w ≤ 18446744073709551615) new = λ k d below. let same : get_or new k d ≡ get_or new k 0 = get_or_default new k d 0 below in let fits = c.type_inv.bits k in omega (arith, same, fits) in
    let long : length new ≡ length old = c.grow_all-grown.auto.bits in
    pass_falls 18446744073709551615 c.args.width old new c.loop-grown.grown c.grow_all-grown.result c.loop-grown-test.true long each c.grow_all-grown.ensures.grows
