-- Tokens that don't spell a form stop in one place, and for one reason.
use Rattle.std.proofs.Common.{◌≡◌, ℕ, zero, suc, List, [], ◌∷◌, ◌++◌, refl, sym, ◌∙◌, subst, append-nil, append_assoc, inl, inr}
use Rattle.jimple_grammar.specs.declared.lexeme.Lexeme.{Lexeme}
use Rattle.jimple_grammar.specs.Grammar.{Grammar, Spells, Begins}
use Rattle.jimple_grammar.specs.Stops.{Refused, Reaches, StopsAt, IsSettled}
use Rattle.jimple_grammar.specs.Forms.{file}
use Rattle.jimple_grammar.proofs.Parts.{Cuts, cut}
use Rattle.jimple_grammar.proofs.Starts.{laws}

module _ {A : Type 0} (g : Grammar A) where
  -- tokens that go on behind a stop don't begin the form
  no_longer : (front l x rest : List Lexeme) (t : Lexeme) → Refused g front l → l ≡ (t ∷ x) ++ rest → Begins g (front ++ t ∷ x) → ⊥
  no_longer front [] x rest t refuses e b = absurd (let bad : [] ≡ t ∷ (x ++ rest) = e in cc)
  no_longer front (u ∷ l) x rest t refuses e b =
      let same : u ≡ t = let bad : u ∷ l ≡ t ∷ (x ++ rest) = e in cc in
      let short : Begins g (front ++ t ∷ []) = (laws 0 g).closed (front ++ t ∷ []) x (subst (Begins g) (sym (append_assoc front (t ∷ []) x)) b) in
      refuses (subst (λ (v : Lexeme). Begins g (front ++ v ∷ [])) (sym same) short)

  -- two stops at one place have one reason
  one_reason : (ts l m : List Lexeme) (v w : ℕ) (h : StopsAt g ts l v) (k : StopsAt g ts m w) → h.front ≡ k.front → l ≡ m → v ≡ w
  one_reason ts l m zero zero h k same_front same = refl
  one_reason ts l m (suc a) w h k same_front same =
      sym (k.only a (subst (λ (u : List Lexeme). Reaches (suc a) g k.front u) same (subst (λ (f : List Lexeme). Reaches (suc a) g f l) same_front (h.so a refl))))
  one_reason ts l m zero (suc b) h k same_front same =
      h.only b (subst (λ (u : List Lexeme). Reaches (suc b) g h.front u) (sym same) (subst (λ (f : List Lexeme). Reaches (suc b) g f m) (sym same_front) (k.so b refl)))

  one_stop : (ts l m : List Lexeme) (v w : ℕ) (h : StopsAt g ts l v) (k : StopsAt g ts m w) → Cuts h.front l k.front m → (l ≡ m) × (v ≡ w)
  one_stop ts l m v w h k (inl ([], e, f)) = (f, one_reason ts l m v w h k (sym (append-nil h.front) ∙ sym e) f)
  one_stop ts l m v w h k (inl (t ∷ x, e, f)) = absurd (no_longer h.front l x m t h.refused f (subst (Begins g) e k.begins))
  one_stop ts l m v w h k (inr ([], e, f)) = (sym f, one_reason ts l m v w h k (e ∙ append-nil k.front) (sym f))
  one_stop ts l m v w h k (inr (t ∷ x, e, f)) = absurd (no_longer k.front m x l t k.refused f (subst (Begins g) e h.begins))

  not_both : (ts : List Lexeme) (x : A) (front l : List Lexeme) → ts ≡ front ++ l → Refused g front l → Spells g ts x → ⊥
  not_both ts x front [] parts refuses s = refuses x (subst (λ (u : List Lexeme). Spells g u x) (parts ∙ append-nil front) s)
  not_both ts x front (t ∷ l) parts refuses s = no_longer front (t ∷ l) l [] t refuses (sym (append-nil (t ∷ l))) (subst (Begins g) parts ((laws 0 g).begun ts x s))

  pub settled : (ts : List Lexeme) → IsSettled g ts
  settled ts = record {
    one = λ l m v w h k. one_stop ts l m v w h k (cut h.front l k.front m (sym h.parts ∙ k.parts));
    apart = λ x l v s h. not_both ts x h.front l h.parts h.refused s;
  }

pub file_settled : (ts : List Lexeme) → IsSettled file ts
file_settled ts = settled file ts
