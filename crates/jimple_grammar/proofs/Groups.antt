-- Loops that read as many pieces as there are, where what the pieces before came to decides on the next one.
use Rattle.std.proofs.Common.{◌≡◌, ℕ, zero, suc, pred, ◌-◌, ◌<◌, ◌≤◌, Bool, true, false, List, [], ◌∷◌, ◌++◌, length, Ok, Err, sym, ◌∙◌, ap, subst, refl, arith, append_assoc, append-nil}
use Rattle.jimple_grammar.specs.declared.lexeme.Lexeme.{Lexeme}
use Rattle.jimple_grammar.specs.declared.cursor.ParseStop.{ParseStop}
use Rattle.jimple_grammar.specs.declared.cursor.ParseStop.TheVariants as stops
use Rattle.jimple_grammar.specs.Gives.{reason_number, Fails}
use Rattle.jimple_grammar.specs.Grammar.{Look, Grammar, many}
use Rattle.jimple_grammar.specs.Reading.{sees_one, Read, ◌>>=◌, may_be_empty, repeat, reading}
use Rattle.jimple_grammar.proofs.Shrink.{Shorter, shrinks}
use Rattle.jimple_grammar.proofs.Loops.{joined, last, some_left}

-- these pieces are read and came to this state, and these tokens are left
pub record Underway {S A B C : Type 0} (f : List A → B → C) (look : Look) (a : S → Grammar A) (step : S → A → S) (b : Grammar B) (total : Read C) (pieces : List A) (state : S) (left : List Lexeme) : Type 0 where
  pub fuel : ℕ
  pub enough : length left ≤ fuel
  pub is : total ≡ joined f pieces (repeat fuel look (λ s. reading (a s)) step (reading b) state left)

module _ {S A B C : Type 0} (f : List A → B → C) (look : Look) (a : S → Grammar A) (step : S → A → S) (b : Grammar B) (total : Read C) where
  sees_some : (s : S) (ts : List Lexeme) → may_be_empty (a s) ≡ false → (x : A × List Lexeme) → reading (a s) ts ≡ Ok x → length x.1 < length ts
  sees_some s ts m x e = subst (λ (c : Bool). Shorter c ts x.1) m (shrinks (a s) ts x e)

  regroup : (pieces : List A) (x : A) (r : Read (List A × B)) → joined f pieces (r >>= λ y. Ok ((x ∷ y.0.0, y.0.1), y.1)) ≡ joined f (pieces ++ x ∷ []) r
  regroup pieces x (Ok y) = ap (λ (xs : List A). Ok (f xs y.0.1, y.1)) (sym (append_assoc pieces (x ∷ []) y.0.0))
  regroup pieces x (Err e) = refl

  finish : (pieces : List A) (r : Read B) → joined f pieces (r >>= λ y. Ok (([], y.0), y.1)) ≡ last f pieces r
  finish pieces (Ok y) = ap (λ (xs : List A). Ok (f xs y.0, y.1)) (append-nil pieces)
  finish pieces (Err e) = refl

  abbrev Goes : ℕ → List A → S → List Lexeme → Type 0
  Goes n pieces s ts = total ≡ joined f pieces (repeat n look (λ s. reading (a s)) step (reading b) s ts)

  on : (n : ℕ) (pieces : List A) (s t : S) (ts : List Lexeme) (x : A × List Lexeme) → sees_one look ts ≡ true → reading (a s) ts ≡ Ok x → may_be_empty (a s) ≡ false → t ≡ step s x.0 → length ts ≤ n → Goes n pieces s ts → Underway f look a step b total (pieces ++ x.0 ∷ []) t x.1
  on zero pieces s t ts x sees e m next k h = absurd (let less = sees_some s ts m x e in omega (arith, k, less))
  on (suc n) pieces s t ts x sees e m next k h = record {
    fuel = n;
    enough = let less = sees_some s ts m x e in omega (arith, k, less);
    is = h ∙ rw (sees, e, next) (regroup pieces x.0 (repeat n look (λ s. reading (a s)) step (reading b) (step s x.0) x.1));
  }

  halt : (n : ℕ) (pieces : List A) (s : S) (ts : List Lexeme) (stop : List Lexeme × ℕ) → sees_one look ts ≡ true → reading (a s) ts ≡ Err stop → 0 < length ts → length ts ≤ n → Goes n pieces s ts → total ≡ Err stop
  halt zero pieces s ts stop sees e m k h = absurd (omega (arith, k, m))
  halt (suc n) pieces s ts stop sees e m k h = h ∙ rw (sees, e) refl

  close : (n : ℕ) (pieces : List A) (s : S) (ts : List Lexeme) → sees_one look ts ≡ false → Goes n pieces s ts → total ≡ last f pieces (reading b ts)
  close zero pieces s ts sees h = h ∙ finish pieces (reading b ts)
  close (suc n) pieces s ts sees h = h ∙ rw sees (finish pieces (reading b ts))

  -- one more piece
  pub underway : (pieces : List A) (s t : S) (ts : List Lexeme) (x : A × List Lexeme) → Underway f look a step b total pieces s ts → sees_one look ts ≡ true → reading (a s) ts ≡ Ok x → may_be_empty (a s) ≡ false → t ≡ step s x.0 → Underway f look a step b total (pieces ++ x.0 ∷ []) t x.1
  underway pieces s t ts x o sees e m next = on o.fuel pieces s t ts x sees e m next o.enough o.is

  halted : (pieces : List A) (s : S) (ts : List Lexeme) (stop : List Lexeme × ℕ) → Underway f look a step b total pieces s ts → sees_one look ts ≡ true → reading (a s) ts ≡ Err stop → 0 < length ts → total ≡ Err stop
  halted pieces s ts stop o sees e m = halt o.fuel pieces s ts stop sees e m o.enough o.is

  -- a piece that stops
  pub failed : (pieces : List A) (s : S) (ts : List Lexeme) (e : ParseStop) → Underway f look a step b total pieces s ts → sees_one look ts ≡ true → sees_one look [] ≡ false → Fails e (reading (a s) ts) → Fails e total
  failed pieces s ts stops.OutOfMemory o sees n h = tt
  failed pieces s ts (stops.Syntax at) o sees n h = (h.0, halted pieces s ts (h.0, 0) o sees h.1 (some_left look ts n sees), h.2)
  failed pieces s ts (stops.Refused why at) o sees n h = (h.0, halted pieces s ts (h.0, suc (reason_number why)) o sees h.1 (some_left look ts n sees), h.2)

  finished : (pieces : List A) (s : S) (ts : List Lexeme) → Underway f look a step b total pieces s ts → sees_one look ts ≡ false → total ≡ last f pieces (reading b ts)
  finished pieces s ts o sees = close o.fuel pieces s ts sees o.is

  -- no more pieces, and then the end
  pub ended : (pieces : List A) (s : S) (ts : List Lexeme) (y : B) (left : List Lexeme) → Underway f look a step b total pieces s ts → sees_one look ts ≡ false → reading b ts ≡ Ok (y, left) → total ≡ Ok (f pieces y, left)
  ended pieces s ts y left o sees h = finished pieces s ts o sees ∙ ap (last f pieces) h

  pub end_failed : (pieces : List A) (s : S) (ts : List Lexeme) (e : ParseStop) → Underway f look a step b total pieces s ts → sees_one look ts ≡ false → Fails e (reading b ts) → Fails e total
  end_failed pieces s ts stops.OutOfMemory o sees h = tt
  end_failed pieces s ts (stops.Syntax at) o sees h = (h.0, finished pieces s ts o sees ∙ ap (last f pieces) h.1, h.2)
  end_failed pieces s ts (stops.Refused why at) o sees h = (h.0, finished pieces s ts o sees ∙ ap (last f pieces) h.1, h.2)

-- no piece yet
pub started : {S A B C : Type 0} (f : List A → B → C) (look : Look) (a : S → Grammar A) (step : S → A → S) (b : Grammar B) (s : S) (ts : List Lexeme) → Underway f look a step b (reading (many f look a step s b) ts) [] s ts
started f look a step b s ts = record { fuel = length ts; enough = omega arith; is = whole (repeat (length ts) look (λ s. reading (a s)) step (reading b) s ts) } where
  whole : (r : Read (_ × _)) → (r >>= λ z. Ok (f z.0.0 z.0.1, z.1)) ≡ joined f [] r
  whole (Ok z) = refl
  whole (Err e) = refl

-- room for one less
pub less_one : (n : ℕ) → n - 1 ≡ pred n
less_one zero = refl
less_one (suc n) = omega arith
