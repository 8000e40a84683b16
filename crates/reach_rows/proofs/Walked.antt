-- What depth-first walks meet.
use Rattle.std.proofs.Common.{◌≡◌, ◌⊎◌, zero, suc, List, [], ◌∷◌, ◌++◌, Contains, refl, ap, ◌∙◌, subst, inl, inr, arith}
use Rattle.std.proofs.lemmas.List.Elements.{Contains-append_cases}
use Rattle.reach_rows.specs.Reaches.{Reaches, here, on}
use Rattle.reach_rows.specs.Walks.{Walk, none, down}

none_there : {X : Type 0} (x : X) → Contains [] x → ⊥
none_there x (k, below, is) = omega (arith, below)

here_first : {X : Type 0} (x : X) (xs : List X) → Contains (x ∷ xs) x
here_first x xs = (0, (omega arith), refl)

one_later : {X : Type 0} (x : X) (xs : List X) (y : X) → Contains xs y → Contains (x ∷ xs) y
one_later x xs y (k, below, is) = (suc k, (omega (arith, below)), is)

cons_cases : {X : Type 0} (x : X) (xs : List X) (y : X) → Contains (x ∷ xs) y → (x ≡ y) ⊎ Contains xs y
cons_cases x xs y (zero, below, is) = inl is
cons_cases x xs y (suc k, below, is) = inr (k, (omega (arith, below)), is)

module _ {X : Type 0} (next : X → List X) where
  abbrev pub Leads : X → X → Type 0
  Leads a b = Contains (next a) b

  -- there is one walk at most
  pub Walk-once : {xs met other : List X} → Walk next xs met → Walk next xs other → met ≡ other
  Walk-once none none = refl
  Walk-once (down {x} {xs} {below} {rest} one others) (down {below = more} {rest = last} two behind) =
      ap (λ (zs : List X). x ∷ zs ++ rest) (Walk-once one two) ∙ ap (λ (zs : List X). x ∷ more ++ zs) (Walk-once others behind)

  -- what is met is reached from where the walk starts
  pub met_reached : {xs met : List X} → Walk next xs met → (b : X) → Contains met b → (a : X) × Contains xs a × Reaches Leads a b
  met_reached none b has = absurd (none_there b has)
  met_reached (down {x} {xs} {below} {rest} one others) b has = elim (cons_cases x (below ++ rest) b has) [
    | inl same ↦ (x, here_first x xs, subst (λ (c : X). Reaches Leads x c) same here)
    | inr later ↦ elim (Contains-append_cases below rest b later) [
      | inl under ↦ let h = met_reached one b under in (x, here_first x xs, on h.1 h.2)
      | inr behind ↦ let h = met_reached others b behind in (h.0, one_later x xs h.0 h.1, h.2)
    ]
  ]
