-- Loops that read as many pieces as there are.
use Rattle.std.proofs.Common.{Result, ◌≡◌, ℕ, zero, suc, ◌<◌, ◌≤◌, Bool, true, false, List, [], ◌∷◌, ◌++◌, length, Ok, Err, sym, ◌∙◌, ap, subst, refl, arith, append_assoc, append-nil}
use Rattle.jimple_grammar.specs.declared.lexeme.Lexeme.{Lexeme}
use Rattle.jimple_grammar.specs.declared.cursor.ParseStop.{ParseStop}
use Rattle.jimple_grammar.specs.declared.cursor.ParseStop.TheVariants as stops
use Rattle.jimple_grammar.specs.Gives.{reason_number, Fails, Gives, GivesMoreWith}
use Rattle.jimple_grammar.specs.Grammar.{Look, Grammar, plain, both, ends, times}
use Rattle.jimple_grammar.specs.Reading.{sees_one, Read, ◌>>=◌, may_be_empty, repeat, reading}
use Rattle.jimple_grammar.proofs.Shrink.{Shorter, shrinks}

abbrev Many : {A B : Type 0} → ℕ → Look → Grammar A → Grammar B → List Lexeme → Read (List A × B)
Many n look a b ts = repeat {S = Unit {0}} n look (λ s. reading a) (λ s x. s) (reading b) tt ts

-- behind these pieces
abbrev pub joined : {A B C : Type 0} → (List A → B → C) → List A → Read (List A × B) → Read C
joined f pieces (Ok z) = Ok (f (pieces ++ z.0.0) z.0.1, z.1)
joined f pieces (Err e) = Err e

abbrev pub last : {A B C : Type 0} → (List A → B → C) → List A → Read B → Read C
last f pieces (Ok y) = Ok (f pieces y.0, y.1)
last f pieces (Err e) = Err e

-- these pieces are read, and these tokens are left
pub record Onward {A B C : Type 0} (f : List A → B → C) (look : Look) (a : Grammar A) (b : Grammar B) (total : Read C) (pieces : List A) (left : List Lexeme) : Type 0 where
  pub fuel : ℕ
  pub enough : length left ≤ fuel
  pub is : total ≡ joined f pieces (Many fuel look a b left)

module _ {A B C : Type 0} (f : List A → B → C) (look : Look) (a : Grammar A) (b : Grammar B) (total : Read C) where
  sees_some : (ts : List Lexeme) → may_be_empty a ≡ false → (x : A × List Lexeme) → reading a ts ≡ Ok x → length x.1 < length ts
  sees_some ts m x e = subst (λ (c : Bool). Shorter c ts x.1) m (shrinks a ts x e)

  regroup : (pieces : List A) (x : A) (r : Read (List A × B)) → joined f pieces (r >>= λ y. Ok ((x ∷ y.0.0, y.0.1), y.1)) ≡ joined f (pieces ++ x ∷ []) r
  regroup pieces x (Ok y) = ap (λ (xs : List A). Ok (f xs y.0.1, y.1)) (sym (append_assoc pieces (x ∷ []) y.0.0))
  regroup pieces x (Err e) = refl

  finish : (pieces : List A) (r : Read B) → joined f pieces (r >>= λ y. Ok (([], y.0), y.1)) ≡ last f pieces r
  finish pieces (Ok y) = ap (λ (xs : List A). Ok (f xs y.0, y.1)) (append-nil pieces)
  finish pieces (Err e) = refl

  on : (n : ℕ) (pieces : List A) (ts : List Lexeme) (x : A × List Lexeme) → sees_one look ts ≡ true → reading a ts ≡ Ok x → may_be_empty a ≡ false → length ts ≤ n → total ≡ joined f pieces (Many n look a b ts) → Onward f look a b total (pieces ++ x.0 ∷ []) x.1
  on zero pieces ts x s e m k h = absurd (let less = sees_some ts m x e in omega (arith, k, less))
  on (suc n) pieces ts x s e m k h = record {
    fuel = n;
    enough = let less = sees_some ts m x e in omega (arith, k, less);
    is = h ∙ rw (s, e) (regroup pieces x.0 (Many n look a b x.1));
  }

  halt : (n : ℕ) (pieces : List A) (ts : List Lexeme) (left : List Lexeme × ℕ) → sees_one look ts ≡ true → reading a ts ≡ Err left → 0 < length ts → length ts ≤ n → total ≡ joined f pieces (Many n look a b ts) → total ≡ Err left
  halt zero pieces ts left s e m k h = absurd (omega (arith, k, m))
  halt (suc n) pieces ts left s e m k h = h ∙ rw (s, e) refl

  close : (n : ℕ) (pieces : List A) (ts : List Lexeme) → sees_one look ts ≡ false → total ≡ joined f pieces (Many n look a b ts) → total ≡ last f pieces (reading b ts)
  close zero pieces ts s h = h ∙ finish pieces (reading b ts)
  close (suc n) pieces ts s h = h ∙ rw s (finish pieces (reading b ts))

  pub onward : (pieces : List A) (ts : List Lexeme) (x : A × List Lexeme) → Onward f look a b total pieces ts → sees_one look ts ≡ true → reading a ts ≡ Ok x → may_be_empty a ≡ false → Onward f look a b total (pieces ++ x.0 ∷ []) x.1
  onward pieces ts x o s e m = on o.fuel pieces ts x s e m o.enough o.is

  pub halted : (pieces : List A) (ts : List Lexeme) (left : List Lexeme × ℕ) → Onward f look a b total pieces ts → sees_one look ts ≡ true → reading a ts ≡ Err left → 0 < length ts → total ≡ Err left
  halted pieces ts left o s e m = halt o.fuel pieces ts left s e m o.enough o.is

  pub finished : (pieces : List A) (ts : List Lexeme) → Onward f look a b total pieces ts → sees_one look ts ≡ false → total ≡ last f pieces (reading b ts)
  finished pieces ts o s = close o.fuel pieces ts s o.is

pub started : {A B C : Type 0} (f : List A → B → C) (look : Look) (a : Grammar A) (b : Grammar B) (ts : List Lexeme) → Onward f look a b (reading (plain f look a b) ts) [] ts
started f look a b ts = record { fuel = length ts; enough = omega arith; is = whole (Many (length ts) look a b ts) } where
  whole : (r : Read (_ × _)) → (r >>= λ z. Ok (f z.0.0 z.0.1, z.1)) ≡ joined f [] r
  whole (Ok z) = refl
  whole (Err e) = refl

pub some_left : (look : Look) (ts : List Lexeme) → sees_one look [] ≡ false → sees_one look ts ≡ true → 0 < length ts
some_left look [] n s = absurd (let bad : false ≡ true = sym n ∙ s in cc)
some_left look (t ∷ ts) n s = omega arith

module _ {A B C : Type 0} (f : List A → B → C) (look : Look) (a : Grammar A) (b : Grammar B) (total : Read C) where
  -- a piece that stops
  pub failed : (pieces : List A) (ts : List Lexeme) (e : ParseStop) → Onward f look a b total pieces ts → sees_one look ts ≡ true → sees_one look [] ≡ false → Fails e (reading a ts) → Fails e total
  failed pieces ts stops.OutOfMemory o s n h = tt
  failed pieces ts (stops.Syntax at) o s n h = (h.0, halted f look a b total pieces ts (h.0, 0) o s h.1 (some_left look ts n s), h.2)
  failed pieces ts (stops.Refused why at) o s n h = (h.0, halted f look a b total pieces ts (h.0, suc (reason_number why)) o s h.1 (some_left look ts n s), h.2)

abbrev pub behind : {A : Type 0} → List A → Read (List A) → Read (List A)
behind pieces (Ok x) = Ok (pieces ++ x.0, x.1)
behind pieces (Err e) = Err e

behind_one : {A : Type 0} (pieces : List A) (x : A) (r : Read (List A)) → behind pieces (r >>= λ y. Ok (x ∷ y.0, y.1)) ≡ behind (pieces ++ x ∷ []) r
behind_one pieces x (Ok y) = ap (λ (xs : List _). Ok (xs, y.1)) (sym (append_assoc pieces (x ∷ []) y.0))
behind_one pieces x (Err e) = refl

pub counted_on : {A : Type 0} (a : Grammar A) (total : Read (List A)) (pieces : List A) (n m : ℕ) (ts : List Lexeme) (x : A × List Lexeme) → total ≡ behind pieces (reading (times n a) ts) → reading a ts ≡ Ok x → n ≡ suc m → total ≡ behind (pieces ++ x.0 ∷ []) (reading (times m a) x.1)
counted_on a total pieces n m ts x h e k = h ∙ rw (k, e) (behind_one pieces x.0 (reading (times m a) x.1))

pub counted_fails : {A : Type 0} (a : Grammar A) (total : Read (List A)) (pieces : List A) (n m : ℕ) (ts : List Lexeme) (e : ParseStop) → total ≡ behind pieces (reading (times n a) ts) → n ≡ suc m → Fails e (reading a ts) → Fails e total
counted_fails a total pieces n m ts stops.OutOfMemory h k f = tt
counted_fails a total pieces n m ts (stops.Syntax at) h k f = let g = f.1 in (f.0, h ∙ rw (k, g) refl, f.2)
counted_fails a total pieces n m ts (stops.Refused why at) h k f = let g = f.1 in (f.0, h ∙ rw (k, g) refl, f.2)

pub counted_end : {A : Type 0} (a : Grammar A) (total : Read (List A)) (pieces : List A) (n : ℕ) (ts : List Lexeme) → total ≡ behind pieces (reading (times n a) ts) → n ≡ 0 → total ≡ Ok (pieces, ts)
counted_end a total pieces n ts h k = h ∙ rw k (ap (λ (xs : List _). Ok (xs, ts)) (append-nil pieces))

pub counted_start : {A : Type 0} (r : Read (List A)) → r ≡ behind [] r
counted_start (Ok x) = refl
counted_start (Err e) = refl

module _ {A B C : Type 0} (f : List A → B → C) (look : Look) (a : Grammar A) (b : Grammar B) (total : Read C) where
  pub ended : (pieces : List A) (ts : List Lexeme) (y : B) (left : List Lexeme) → Onward f look a b total pieces ts → sees_one look ts ≡ false → reading b ts ≡ Ok (y, left) → total ≡ Ok (f pieces y, left)
  ended pieces ts y left o s h = finished f look a b total pieces ts o s ∙ ap (last f pieces) h

  pub end_failed : (pieces : List A) (ts : List Lexeme) (e : ParseStop) → Onward f look a b total pieces ts → sees_one look ts ≡ false → Fails e (reading b ts) → Fails e total
  end_failed pieces ts stops.OutOfMemory o s h = tt
  end_failed pieces ts (stops.Syntax at) o s h = (h.0, finished f look a b total pieces ts o s ∙ ap (last f pieces) h.1, h.2)
  end_failed pieces ts (stops.Refused why at) o s h = (h.0, finished f look a b total pieces ts o s ∙ ap (last f pieces) h.1, h.2)

pub both_fails : {A B C : Type 0} (f : A → B → C) (a : Grammar A) (b : Grammar B) (ts left : List Lexeme) (x : A) (e : ParseStop) → reading a ts ≡ Ok (x, left) → Fails e (reading b left) → Fails e (reading (both f a b) ts)
both_fails f a b ts left x stops.OutOfMemory h k = tt
both_fails f a b ts left x (stops.Syntax at) h k = let g = k.1 in (k.0, rw (h, g) refl, k.2)
both_fails f a b ts left x (stops.Refused why at) h k = let g = k.1 in (k.0, rw (h, g) refl, k.2)

-- the pieces behind the first one, and then no more
pub both_ended : {A : Type 0} (a b : Grammar A) (look : Look) (ts left rest : List Lexeme) (x : A) (pieces : List A) → reading a ts ≡ Ok (x, left) → Onward (λ xs end. xs) look b ends (reading (plain (λ xs end. xs) look b ends) left) pieces rest → sees_one look rest ≡ false
    → reading (both (λ x xs. x ∷ xs) a (plain (λ xs end. xs) look b ends)) ts ≡ Ok (x ∷ pieces, rest)
both_ended a b look ts left rest x pieces h o s =
    let g : reading (plain (λ xs end. xs) look b ends) left ≡ Ok (pieces, rest) = ended (λ xs end. xs) look b ends (reading (plain (λ xs end. xs) look b ends) left) pieces rest tt rest o s refl in
    rw (h, g) refl

-- the pieces behind what a list held before, and then what the end gives
pub ended_with : {A B : Type 0} (look : Look) (a : Grammar A) (b : Grammar B) (total : Read (List A × B)) (pieces old new : List A) (ts left : List Lexeme) (r : Result B ParseStop) → Onward (λ xs y. (xs, y)) look a b total pieces ts → sees_one look ts ≡ false → new ≡ old ++ pieces → Gives (λ x. x) r left (reading b ts) → GivesMoreWith r old new left total
ended_with look a b total pieces old new ts left (Ok y) o s e h = (pieces, ended (λ xs y. (xs, y)) look a b total pieces ts y left o s h, e)
ended_with look a b total pieces old new ts left (Err x) o s e h = end_failed (λ xs y. (xs, y)) look a b total pieces ts x o s h
