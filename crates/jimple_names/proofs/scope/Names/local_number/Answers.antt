use Rattle.std.proofs.Common.{◌∙◌, refl, List, ℕ}
use Rattle.std.specs.Borrow.{Bor}
use Rattle.std.specs.Str.{bytes_eq}
use Rattle.jimple_tree.specs.declared.tree.Local.{Local}
use Rattle.jimple_names.specs.Texts.{unquoted}
use Rattle.jimple_names.proofs.Positions.{images}
use Rattle.jimple_names.proofs.scope.Names.local_number.Goals as goal

pub returns : goal.returns
returns c =
    let q : Bor (List ℕ) = record { ref_ptr = c.args.word.ref_ptr; now = unquoted c.args.word.now } in
    c.in_ok-found.ensures q refl ∙ c.args.self.now.local_numbered q ∙ images (λ (l : Local). l.name) (λ (n : List ℕ). bytes_eq n q.now) c.args.self.now.locals.now
