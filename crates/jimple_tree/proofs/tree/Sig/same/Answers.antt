use Rattle.std.proofs.Common.{◌≡◌, ◌∙◌, sym}
use Rattle.jimple_tree.specs.Exact.{sigs_decide, same_sig}
use Rattle.jimple_tree.proofs.tree.Sig.same.Goals as goal

pub returns : goal.returns
returns c =
    let h : c.eq.result ≡ same_sig c.args.self.now c.args.other.now = c.eq.ensures in
    let decided = sigs_decide c.args.self.now c.args.other.now in
    (λ yes. decided.0 (sym h ∙ yes), λ e. h ∙ decided.1 e)
