-- Forms that begin with one token: what stands in front of what begins or spells them.
use Rattle.std.proofs.Common.{◌≡◌, ℕ, true, false, List, [], ◌∷◌, ◌++◌, refl, sym, ◌∙◌, ap, subst, inl, inr}
use Rattle.jimple_grammar.specs.declared.lexeme.Lexeme.{Lexeme}
use Rattle.jimple_words.specs.Kind.{Kinds, has}
use Rattle.jimple_grammar.specs.Grammar.{Grammar, token, both, Spells, BeginsBy}
use Rattle.jimple_grammar.specs.Reading.{may_be_empty}
use Rattle.jimple_grammar.proofs.Starts.{laws, empty_when, not_both}

-- one token, and then what begins the rest
pub token_off : (n : ℕ) {B C : Type 0} (f : Lexeme → B → C) (ks : Kinds) (g : Grammar B) (t : Lexeme) (us : List Lexeme) → BeginsBy n (both f (token ks) g) (t ∷ us) → (has ks t.kind ≡ true) × BeginsBy n g us
token_off n f ks g t us (inl (inl e)) = absurd cc
token_off n f ks g t us (inl (inr h)) =
    let e : t ≡ h.0 = let k = h.1 in cc in
    let m : us ≡ [] = let k = h.1 in cc in
    (subst (λ (v : Lexeme). has ks v.kind ≡ true) (sym e) h.2, subst (BeginsBy n g) (sym m) (laws n g).empty)
token_off n f ks g t us (inr q) =
    let k : t ∷ us ≡ q.0 ∷ q.2 = q.3 ∙ ap (λ (vs : List Lexeme). vs ++ q.2) q.4.0 in
    let e : t ≡ q.0 = cc in
    let m : us ≡ q.2 = cc in
    (subst (λ (v : Lexeme). has ks v.kind ≡ true) (sym e) q.4.1, subst (BeginsBy n g) (sym m) q.5)

pub token_on : (n : ℕ) {B C : Type 0} (f : Lexeme → B → C) (ks : Kinds) (g : Grammar B) (t : Lexeme) (us : List Lexeme) → has ks t.kind ≡ true → BeginsBy n g us → BeginsBy n (both f (token ks) g) (t ∷ us)
token_on n f ks g t us h b = inr (t, t ∷ [], us, refl, (refl, h), b)

pub token_spelled : {B C : Type 0} (f : Lexeme → B → C) (ks : Kinds) (g : Grammar B) (p : List Lexeme) (v : C) → Spells (both f (token ks) g) p v → (t : Lexeme) × (us : List Lexeme) × (y : B) × (p ≡ t ∷ us) × Spells g us y × (has ks t.kind ≡ true)
token_spelled f ks g p v h = (h.0, h.3, h.1, h.4 ∙ ap (λ (vs : List Lexeme). vs ++ h.3) h.5.0, h.6, h.5.1)

-- a token, and a rest that isn't empty
pub two_long : {B C : Type 0} (f : Lexeme → B → C) (ks : Kinds) (g : Grammar B) → may_be_empty g ≡ false → (p : List Lexeme) (v : C) → Spells (both f (token ks) g) p v → (t : Lexeme) × (u : Lexeme) × (us : List Lexeme) × (p ≡ t ∷ u ∷ us)
two_long f ks g w p v h = let s = token_spelled f ks g p v h in of s.0 s.1 s.2 s.3 s.4 where
  of : (t : Lexeme) (us : List Lexeme) (y : _) → p ≡ t ∷ us → Spells g us y → (t : Lexeme) × (u : Lexeme) × (us : List Lexeme) × (p ≡ t ∷ u ∷ us)
  of t [] y e s = absurd (not_both (may_be_empty g) (empty_when g y s) w)
  of t (u ∷ us) y e s = (t, u, us, e)
