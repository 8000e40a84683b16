-- Lines that give items: one line more, one list at most, and lists of lines in two parts.
use Rattle.std.proofs.Common.{◌≡◌, List, ℕ, [], ◌∷◌, ◌++◌, refl, sym, ap, ◌∙◌, inl, inr}
use Rattle.list_lines.specs.Lines.{IsPassedOver}
use Rattle.list_lines.specs.Lists.{Give}

pub give_none : {X : Type 0} (Gives : List ℕ → X → Type 0) (lines : List (List ℕ)) (line : List ℕ) (xs : List X) → Give Gives lines xs → IsPassedOver line
    → Give Gives (lines ++ line ∷ []) xs
give_none Gives [] line xs g passed = inl (passed, g)
give_none Gives (l ∷ lines) line xs (inl g) passed = inl (g.0, give_none Gives lines line xs g.1 passed)
give_none Gives (l ∷ lines) line xs (inr g) passed = inr (g.0, g.1, g.2, give_none Gives lines line g.1 g.3 passed, g.4)

pub give_more : {X : Type 0} (Gives : List ℕ → X → Type 0) (lines : List (List ℕ)) (line : List ℕ) (xs : List X) (x : X) → Give Gives lines xs → Gives line x
    → Give Gives (lines ++ line ∷ []) (xs ++ x ∷ [])
give_more {X} Gives [] line xs x g h = inr (x, [], h, refl, ap (λ (ys : List X). ys ++ x ∷ []) g)
give_more Gives (l ∷ lines) line xs x (inl g) h = inl (g.0, give_more Gives lines line xs x g.1 h)
give_more {X} Gives (l ∷ lines) line xs x (inr g) h = inr (g.0, g.1 ++ x ∷ [], g.2, give_more Gives lines line g.1 x g.3 h, ap (λ (ys : List X). ys ++ x ∷ []) g.4)

-- a line gives one item at most, and one that is passed over none
pub record GivesOnce {X : Type 0} (Gives : List ℕ → X → Type 0) : Type 0 where
  pub one : (line : List ℕ) (x y : X) → Gives line x → Gives line y → x ≡ y
  pub silent : (line : List ℕ) (x : X) → IsPassedOver line → Gives line x → ⊥

pub give_once : {X : Type 0} (Gives : List ℕ → X → Type 0) → GivesOnce Gives → (lines : List (List ℕ)) (xs ys : List X) → Give Gives lines xs → Give Gives lines ys → xs ≡ ys
give_once Gives once [] xs ys g h = g ∙ sym h
give_once Gives once (line ∷ lines) xs ys (inl g) (inl h) = give_once Gives once lines xs ys g.1 h.1
give_once Gives once (line ∷ lines) xs ys (inl g) (inr h) = absurd (once.silent line h.0 g.0 h.2)
give_once Gives once (line ∷ lines) xs ys (inr g) (inl h) = absurd (once.silent line g.0 h.0 g.2)
give_once {X} Gives once (line ∷ lines) xs ys (inr g) (inr h) =
    g.4 ∙ ap (λ (x : X). x ∷ g.1) (once.one line g.0 h.0 g.2 h.2) ∙ ap (λ (rest : List X). h.0 ∷ rest) (give_once Gives once lines g.1 h.1 g.3 h.3) ∙ sym h.4

-- lines in two parts give items in two parts
pub record GiveParts {X : Type 0} (Gives : List ℕ → X → Type 0) (before more : List (List ℕ)) (xs : List X) : Type 0 where
  pub front : List X
  pub back : List X
  pub first : Give Gives before front
  pub then : Give Gives more back
  pub is : xs ≡ front ++ back

pub split : {X : Type 0} (Gives : List ℕ → X → Type 0) (before more : List (List ℕ)) (xs : List X) → Give Gives (before ++ more) xs → GiveParts Gives before more xs
split Gives [] more xs g = record { front = []; back = xs; first = refl; then = g; is = refl }
split Gives (line ∷ before) more xs (inl g) = let r = split Gives before more xs g.1 in
    record { front = r.front; back = r.back; first = inl (g.0, r.first); then = r.then; is = r.is }
split {X} Gives (line ∷ before) more xs (inr g) = let r = split Gives before more g.1 g.3 in
    record { front = g.0 ∷ r.front; back = r.back; first = inr (g.0, r.front, g.2, r.first, refl); then = r.then; is = g.4 ∙ ap (λ (rest : List X). g.0 ∷ rest) r.is }
