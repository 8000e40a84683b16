use Rattle.std.proofs.Common.{◌≡◌, List, ℕ, [], true, false, Some, None, ap, ◌∙◌, sym}
use Rattle.jimple_tree.specs.declared.tree.Sig.{Sig}
use Rattle.source_sink.specs.Reading.{Read, read_sig}
use Rattle.source_sink.proofs.Exact.{read_is_spelled, one_sig, none_left, none_spelled}
use Rattle.source_sink.proofs.signature.read_sig.Goals as goal

pub returns-in-Err-Other-clause-none : goal.returns-in-Err-Other-clause-none
returns-in-Err-Other-clause-none c s h =
    let e : read_sig c.args.text.now ≡ None = ap read_sig (sym c.new-cursor.ensures) ∙ (rw c.in-Err-Other.field-0-is at c.in-Err-Other.ensures) in
    none_spelled c.args.text.now e s h

pub returns-clause-some : goal.returns-clause-some
returns-clause-some c =
    let left = c.take_sig.new.self.left.now in
    let e : read_sig c.args.text.now ≡ Some (c.in-Ok.found, left) = ap read_sig (sym c.new-cursor.ensures) ∙ c.in-Ok.ensures in
    let end : left ≡ [] = c.is_at_end.ensures.at_end.0 c.if-not-is_at_end.false in
    let whole : read_sig c.args.text.now ≡ Some (c.in-Ok.found, []) = e ∙ ap (λ (xs : List ℕ). let r : Read Sig = Some (c.in-Ok.found, xs) in r) end in
    (read_is_spelled c.args.text.now c.in-Ok.found whole, λ s h. one_sig c.args.text.now c.in-Ok.found [] whole s h)

pub returns-then-not-is_at_end-clause-none : goal.returns-then-not-is_at_end-clause-none
returns-then-not-is_at_end-clause-none c s h =
    let left = c.take_sig.new.self.left.now in
    let e : read_sig c.args.text.now ≡ Some (c.in-Ok.found, left) = ap read_sig (sym c.new-cursor.ensures) ∙ c.in-Ok.ensures in
    let end : left ≡ [] = none_left c.args.text.now c.in-Ok.found left e s h in
    let bad : c.is_at_end.result ≡ true = c.is_at_end.ensures.at_end.1 end in
    let no : c.is_at_end.result ≡ false = c.if-not-is_at_end.true in
    let clash : true ≡ false = sym bad ∙ no in
    cc
