-- A whole list of tokens: its value, or the place where it stops.
use Rattle.std.proofs.Common.{◌≡◌, ℕ, suc, List, [], ◌∷◌, Ok, Err, refl, sym, ◌∙◌, ap, subst, append-nil}
use Rattle.jimple_grammar.specs.declared.lexeme.Lexeme.{Lexeme}
use Rattle.jimple_grammar.specs.Grammar.{Grammar, Spells, Begins, BeginsBy}
use Rattle.jimple_grammar.specs.Reading.{Read, reading}
use Rattle.jimple_grammar.specs.declared.cursor.ParseStop.{ParseStop}
use Rattle.jimple_grammar.specs.declared.cursor.ParseStop.TheVariants as stops
use Rattle.jimple_grammar.specs.Gives.{Fails, reason_number}
use Rattle.jimple_grammar.specs.Stops.{StopsAt, Reaches, Refused, Told}
use Rattle.jimple_grammar.proofs.Shrink.{ok_is}
use Rattle.jimple_grammar.proofs.Starts.{laws}
use Rattle.jimple_grammar.proofs.Parts.{Off, On, Exact}
use Rattle.jimple_grammar.proofs.Sure.{Sure, exact, again}

exact_of : {A : Type 0} (g : Grammar A) → Sure g [] → (ts : List Lexeme) (r : Read A) → reading g ts ≡ r → Exact (Spells g) (λ k. BeginsBy k g) ts r
exact_of g s ts r e = subst (λ (q : Read _). Exact (Spells g) (λ k. BeginsBy k g) ts q) e (exact g [] s ts)

-- what is read whole is spelled so
pub found : {A : Type 0} (g : Grammar A) → Sure g [] → (ts : List Lexeme) (v : A) → reading g ts ≡ Ok (v, []) → Spells g ts v
found g s ts v e = let h = exact_of g s ts (Ok (v, [])) e in subst (λ (us : List Lexeme). Spells g us v) (sym (h.parts ∙ append-nil h.front)) h.spelled

-- what is spelled is read whole
pub read_whole : {A : Type 0} (g : Grammar A) → Sure g [] → (ts : List Lexeme) (v : A) → Spells g ts v → reading g ts ≡ Ok (v, [])
read_whole g s ts v h = ap (reading g) (sym (append-nil ts)) ∙ again g [] s ts [] v h tt

pub one_value : {A : Type 0} (g : Grammar A) → Sure g [] → (ts : List Lexeme) (v w : A) → Spells g ts v → Spells g ts w → v ≡ w
one_value g s ts v w h k = ap (λ (p : _ × List Lexeme). p.0) (ok_is (v, []) (w, []) (sym (read_whole g s ts v h) ∙ read_whole g s ts w k))

pub stops_behind : {A : Type 0} (g : Grammar A) → Sure g [] → (ts : List Lexeme) (v : A) (t : Lexeme) (left : List Lexeme) → reading g ts ≡ Ok (v, t ∷ left) → StopsAt g ts (t ∷ left) 0
stops_behind g s ts v t left e = let h = exact_of g s ts (Ok (v, t ∷ left)) e in record { front = h.front; parts = h.parts; begins = (laws 0 g).begun h.front v h.spelled; refused = h.off 0; only = λ k o. absurd (h.off (suc k) o); so = λ k n. absurd cc }

pub stops_in : {A : Type 0} (g : Grammar A) → Sure g [] → (ts left : List Lexeme) (why : ℕ) → reading g ts ≡ Err (left, why) → StopsAt g ts left why
stops_in g s ts left why e = let h = exact_of g s ts (Err (left, why)) e in record { front = h.front; parts = h.parts; begins = h.begun; refused = refused_of left h.front h.off h.open_end; only = λ k o. h.reason.only k (on_of left h.front k o); so = λ k n. of_on left h.front k (h.reason.so k n) } where
  refused_of : (l front : List Lexeme) → Off (Begins g) front l → (l ≡ [] → (v : _) → Spells g front v → ⊥) → Refused g front l
  refused_of [] front off n = n refl
  refused_of (t ∷ l) front off n = off

  on_of : (l front : List Lexeme) (k : ℕ) → Reaches (suc k) g front l → On (BeginsBy (suc k) g) front l
  on_of [] front k o = o
  on_of (t ∷ l) front k o = o

  of_on : (l front : List Lexeme) (k : ℕ) → On (BeginsBy (suc k) g) front l → Reaches (suc k) g front l
  of_on [] front k o = o
  of_on (t ∷ l) front k o = o

-- the clauses of a reader of the whole, from what reading gives
pub told_ok : {A : Type 0} (g : Grammar A) → Sure g [] → (ts : List Lexeme) (v : A) → reading g ts ≡ Ok (v, []) → Told g ts (Ok v)
told_ok g s ts v h = record { found = found g s ts v h; only = λ w k. one_value g s ts w v k (found g s ts v h) }

pub told_err : {A : Type 0} (g : Grammar A) → Sure g [] → (ts : List Lexeme) (e : ParseStop) → Fails e (reading g ts) → Told g ts (Err e)
told_err g s ts stops.OutOfMemory h = tt
told_err g s ts (stops.Syntax at) h = (h.0, stops_in g s ts h.0 0 h.1, h.2)
told_err g s ts (stops.Refused why at) h = (h.0, stops_in g s ts h.0 (suc (reason_number why)) h.1, h.2)

-- what doesn't stop at the end of the tokens isn't spelled by all of them
pub none_behind : {A : Type 0} (g : Grammar A) → Sure g [] → (ts : List Lexeme) (v : A) (left : List Lexeme) → reading g ts ≡ Ok (v, left) → (left ≡ [] → ⊥) → (w : A) → Spells g ts w → ⊥
none_behind g s ts v left e n w h = n (ap (λ (p : _ × List Lexeme). p.1) (ok_is (v, left) (w, []) (sym e ∙ read_whole g s ts w h)))

pub none_read : {A : Type 0} (g : Grammar A) → Sure g [] → (ts : List Lexeme) (stop : List Lexeme × ℕ) → reading g ts ≡ Err stop → (w : A) → Spells g ts w → ⊥
none_read g s ts stop e w h = let k = read_whole g s ts w h in absurd cc
