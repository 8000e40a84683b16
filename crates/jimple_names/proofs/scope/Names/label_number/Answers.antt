use Rattle.std.proofs.Common.{◌∙◌, sym, refl, List, ℕ}
use Rattle.std.specs.Borrow.{Bor}
use Rattle.std.specs.Str.{bytes_eq}
use Rattle.jimple_names.specs.declared.scope.Label.{Label}
use Rattle.jimple_names.specs.Texts.{unquoted}
use Rattle.jimple_names.proofs.Positions.{from_zero}
use Rattle.jimple_names.proofs.scope.Names.label_number.Goals as goal

pub returns : goal.returns
returns c =
    let q : Bor (List ℕ) = record { ref_ptr = c.args.word.ref_ptr; now = unquoted c.args.word.now } in
    c.in_ok-found.ensures q refl ∙ c.args.self.now.label_numbered q ∙ sym (from_zero (λ (l : Label). bytes_eq l.name q.now) c.args.self.now.labels.now)
