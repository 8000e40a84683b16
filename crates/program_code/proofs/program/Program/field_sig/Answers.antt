use Rattle.std.specs.Prelude.{◌≡◌, ◌<◌, ◌≤◌, ◌+◌, ◌-◌, ℕ, zero, suc, List, [], ◌∷◌, Option, Some, None, length, IfNone, MatchOption, slice_index_or}
use Rattle.std.proofs.Common.{arith, sym, subst}
use Rattle.std.proofs.lemmas.List.{get_or_default}
use Rattle.clean_base.specs.Lists.{At}
use Rattle.field_table.specs.Numbers.{all_sigs}
use Rattle.program_code.specs.App.{App}
use Rattle.program_code.proofs.program.Program.field_sig.Goals as goal

-- a number that is within, and yet stands for no item behind two, is below two
below_two : {X : Type 0} (xs : List X) (n : ℕ) → n < 2 + length xs → ((x : X) → (2 ≤ n) × At xs (n - 2) x → ⊥) → n < 2
below_two xs zero within none = omega arith
below_two xs (suc zero) within none = omega arith
below_two [] (suc (suc n)) within none = absurd (omega (arith, within))
below_two (x ∷ xs) (suc (suc n)) within none =
    let place : ℕ = suc (suc n) - 2 in
    let below : place < length (x ∷ xs) = omega (arith, within) in
    let got = slice_index_or (x ∷ xs) place x in
    absurd (none got (omega arith, (below, get_or_default (x ∷ xs) place got x below)))

told : {X Y : Type 0} (r : Option Y) (xs : List X) (n : ℕ) (P : Y → Type 0) → n < 2 + length xs → MatchOption r ((x : X) → (2 ≤ n) × At xs (n - 2) x → ⊥) P → IfNone r (n < 2)
told None xs n P within tells = below_two xs n within tells
told (Some y) xs n P within tells = tt

pub returns-clause-none : goal.returns-clause-none
returns-clause-none c =
    let within : c.args.f.0 < 2 + length (all_sigs c.self.inside.parts.fields) = subst (λ (app : App). c.args.f.0 < app.code.fields) (sym c.self.view_is) c.requires in
    told c.sig.result _ c.args.f.0 _ within c.sig.ensures
