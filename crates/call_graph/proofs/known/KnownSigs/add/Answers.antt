use Rattle.std.proofs.Common.{◌≡◌, ◌++◌, ◌∷◌, ◌∙◌, [], ℕ, List, Contains, length, take, ap, sym, subst}
use Rattle.clean_base.specs.Lists.{At}
use Rattle.jimple_tree.specs.Exact.{same_sig, sigs_decide}
use Rattle.jimple_tree.specs.declared.tree.Sig.{Sig}
use Rattle.class_table.proofs.Once.{insert_new}
use Rattle.call_graph.specs.Known.{AreKnown, IsKnown}
use Rattle.call_graph.specs.declared.known.KnownSig.{KnownSig}
use Rattle.call_graph.proofs.Knowing.{kept_known, last_at}
use Rattle.call_graph.proofs.known.KnownSigs.add.Goals as goal

pub returns-clause-known : goal.returns-clause-known
returns-clause-known c =
    let cs = c.args.table.now in
    let lines = c.args.lists.now in
    let kind = c.args.kind in
    let sigs = c.args.self.now.sigs.keys in
    let copy = c.in_ok-copy.field-0 in
    let known = c.in_ok-look_up.field-0 in
    let place : c.len-place.result ≡ length sigs = c.len-place.ensures.len in
    let front = ◌∙◌ {A = List KnownSig} c.truncate.ensures.items (ap (λ (n : ℕ). take n c.args.self.now.known.items) place) in
    let all = ◌∙◌ {A = List KnownSig} c.in_ok-push.ensures.items (ap (λ (ks : List KnownSig). ks ++ known ∷ []) front) in
    let lacks : Contains sigs copy → _ = λ has. c.requires.new (subst (Contains sigs) c.in_ok-copy.ensures has) in
    let is = subst (λ (s : Sig). IsKnown cs lines kind s known) (sym c.in_ok-copy.ensures) c.in_ok-look_up.ensures in
    subst (AreKnown cs lines kind c.insert.new.self.keys) (sym all) (kept_known cs lines kind sigs c.args.self.now.known.items copy known c.requires.known is c.insert.result c.insert.new.self.keys lacks c.insert.ensures.keys c.insert.ensures.err)

pub returns-clause-at : goal.returns-clause-at
returns-clause-at c =
    let sigs = c.args.self.now.sigs.keys in
    let copy = c.in_ok-copy.field-0 in
    let lacks : Contains sigs copy → _ = λ has. c.requires.new (subst (Contains sigs) c.in_ok-copy.ensures has) in
    let keys = c.in_ok-insert.ensures.keys ∙ insert_new same_sig sigs_decide sigs copy lacks ∙ ap (λ (s : Sig). sigs ++ s ∷ []) c.in_ok-copy.ensures in
    subst (λ (n : ℕ). At c.insert.new.self.keys n c.args.sig.now) (sym c.len-place.ensures.len) (subst (λ (ss : List Sig). At ss (length sigs) c.args.sig.now) (sym keys) (last_at sigs c.args.sig.now))
