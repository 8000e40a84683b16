-- A word with no quote is its own name.
use Rattle.std.proofs.Common.{◌≡◌, ℕ, Bool, true, false, ◌==◌, List, [], ◌∷◌, refl, sym, ◌∙◌, ap}
use Rattle.std.specs.List.{list_any}
use Rattle.jimple_lex.specs.Bytes.{single_quote}
use Rattle.jimple_names.specs.Texts.{unquoted}

pub plain : (word : List ℕ) → list_any (λ c. c == single_quote) word ≡ false → unquoted word ≡ word
plain [] e = refl
plain (c ∷ cs) e = of (c == single_quote) refl (plain cs) where
  of : (b : Bool) → (c == single_quote) ≡ b → (list_any (λ d. d == single_quote) cs ≡ false → unquoted cs ≡ cs) → unquoted (c ∷ cs) ≡ c ∷ cs
  of true q h = let bad : true ≡ false = sym (rw q refl) ∙ e in absurd cc
  of false q h = let rest : list_any (λ d. d == single_quote) cs ≡ false = sym (rw q refl) ∙ e in rw q (ap (λ (ds : List ℕ). c ∷ ds) (h rest))
