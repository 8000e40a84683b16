-- One step further in a loop.
use Rattle.std.proofs.Common.{◌≡◌, ◌∙◌, ℕ, ◌+◌, ◌<◌, ◌≤◌, true, List, slice_index_or, arith, subst, sym, ap, ◌⊎◌, inl, inr, eq-or-lt_of_le, Bor, [], ◌∷◌, map, take, length, zero, suc, refl}
use Rattle.std.proofs.lemmas.List.{map-append, map_more}
use Rattle.clap.specs.Simple.{App, new_shape, with_rule}
use Rattle.clap.specs.Walk.{Rule}
use Rattle.command_line.specs.Words.{Text}
use Rattle.command_line.specs.Written.{file_written, option_written, written}

-- a fact of each item, one item further
pub one_further : {X : Type 0} (P : X → Type 0) (xs : List X) (i : ℕ) → ((k : ℕ) (d : X) → k < i → P (slice_index_or xs k d)) → ((d : X) → P (slice_index_or xs i d))
    → (k : ℕ) (d : X) → k < i + 1 → P (slice_index_or xs k d)
one_further P xs i before here k d lt = go (eq-or-lt_of_le (let h : k ≤ i = omega (arith, lt) in h))
  where
    go : (k ≡ i) ⊎ (k < i) → P (slice_index_or xs k d)
    go (inl e) = subst (λ j. P (slice_index_or xs j d)) (sym e) (here d)
    go (inr below) = before k d below

pub text_at : (xs : List (Bor Text)) (i : ℕ) (d : Text) (b : Bor Text) → i < length xs → (slice_index_or xs i b).now ≡ slice_index_or (map (λ s. s.now) xs) i d
text_at [] i d b lt = absurd (omega (arith, lt))
text_at (x ∷ xs) zero d b lt = refl
text_at (x ∷ xs) (suc i) d b lt = text_at xs i d b (omega (arith, lt))

pub length_texts : (xs : List (Bor Text)) → length (map (λ s. s.now) xs) ≡ length xs
length_texts [] = refl
length_texts (x ∷ xs) = ap suc (length_texts xs)

-- a command with one option more
pub option_further : (name : Text) (xs : List (Bor Text)) (i : ℕ) (b : Bor Text) (old new : App) → i < length xs → old ≡ written name (map (λ s. s.now) (take i xs))
    → new ≡ with_rule old (option_written (slice_index_or xs i b).now) → new ≡ written name (map (λ s. s.now) (take (i + 1) xs))
option_further name xs i b old new lt so is =
    is ∙ ap (λ a. with_rule a (option_written (slice_index_or xs i b).now)) so
    ∙ ap (λ (rules : List Rule). let app : App = record { top = record (new_shape name) { rules = file_written ∷ rules; disable_help_flag = true }; subs = [] } in app)
    (sym (map-append option_written (map (λ s. s.now) (take i xs)) ((slice_index_or xs i b).now ∷ [])))
    ∙ ap (written name) (sym (map_more (λ s. s.now) xs i b lt))
