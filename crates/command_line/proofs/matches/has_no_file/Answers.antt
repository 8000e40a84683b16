use Rattle.std.proofs.Common.{◌≡◌, ◌∙◌, sym, ap, unwrap_or, codes, length, List, [], ◌∷◌, map, Bor, ℕ, refl, IsTrue, Bool, ◌==◌, eqb-true, arith}
use Rattle.clap.specs.Matches.{found_of}
use Rattle.clap.proofs.WalkLemmas.{raw_values-rows}
use Rattle.command_line.proofs.matches.has_no_file.Goals as goal

empty_if : (xs : List (Bor (List ℕ))) (ys : List (List ℕ)) (b : Bool) → map (λ s. s.now) xs ≡ ys → b ≡ (length xs == 0) → (IsTrue b → ys ≡ []) × (ys ≡ [] → IsTrue b)
empty_if [] ys b same e = ((λ yes. sym same), (λ none. e))
empty_if (x ∷ xs) ys b same e = (
  (λ yes. let n = eqb-true (length (x ∷ xs)) 0 (sym e ∙ yes) in absurd (omega (arith, n))),
  (λ none. let n = ap length (same ∙ none) in absurd (omega (arith, n))),
)

pub returns-in-None : goal.returns-in-None
returns-in-None c = (
  (λ yes. sym (ap (λ o. unwrap_or o []) (c.in-None.ensures ∙ raw_values-rows (found_of c.args.line.now) (codes "file")))),
  (λ none. refl),
)

pub returns-in-Some : goal.returns-in-Some
returns-in-Some c =
    let same = ap (λ o. unwrap_or o []) (c.in-Some.ensures ∙ raw_values-rows (found_of c.args.line.now) (codes "file")) in
    empty_if c.in-Some.files.now _ c.is_empty.result same c.is_empty.ensures
