-- Where each choice shows by what stands in front, reading is exact.
use Rattle.std.proofs.Common.{◌≡◌, ◌⊎◌, ℕ, zero, suc, ◌<◌, ◌≤◌, Bool, true, false, cond, List, [], ◌∷◌, ◌++◌, length, Ok, Err, sym, ◌∙◌, ap, subst, refl, inl, inr, arith, append_assoc, append-nil}
use Rattle.std.specs.Prelude.{◌==◌}
use Rattle.std.proofs.lemmas.Bool.{eqb-true}
use mathlib.Core.Bool.{◌||◌}
use Rattle.jimple_grammar.specs.declared.lexeme.Lexeme.{Lexeme}
use Rattle.jimple_words.specs.declared.kind.Kind.{Kind}
use Rattle.jimple_words.specs.Kind.{has, Kinds, among, number}
use Rattle.jimple_grammar.specs.Grammar.{Look, Grammar, nothing, token, refused, both, either, many, plain, given, Then, ThenBegins, ManySpells, last, more, ManyBegins, piece, end, later, Spells, Begins, BeginsBy}
use Rattle.jimple_grammar.specs.Reading.{sees, sees_one, Read, ◌>>=◌, read_token, read_refused, may_be_empty, first, repeat, reading}
use Rattle.jimple_grammar.proofs.Shrink.{Shorter, shrinks}
use Rattle.jimple_grammar.proofs.Parts.{Laws, Off, On, Exact, Meets, Again, first_stops, second_reads}
use Rattle.jimple_grammar.proofs.Starts.{and_parts, not_both, has_left, has_right, disjoint, next, Follow, laws, many_laws, many_empty, empty_when}

-- pieces and an end, from the front
abbrev pub PieceSpells : {S A B : Type 0} → (S → Grammar A) → (S → A → S) → Grammar B → S → List Lexeme → List A × B → Type 0
PieceSpells a step b s ts z = Then (Spells (a s)) (λ x. ManySpells (λ s. Spells (a s)) step (Spells b) (step s x)) (λ x z. (x ∷ z.0, z.1)) ts z

abbrev pub PieceBegins : ℕ → {S A B : Type 0} → (S → Grammar A) → (S → A → S) → Grammar B → S → List Lexeme → Type 0
PieceBegins n a step b s ts = ThenBegins (Spells (a s)) (BeginsBy n (a s)) (λ x. ManyBegins (λ s. Spells (a s)) step (λ s. BeginsBy n (a s)) (BeginsBy n b) (step s x)) ts

-- The tokens in front tell whether one more piece comes.
pub record Tells {S A B : Type 0} (look : Look) (a : S → Grammar A) (step : S → A → S) (b : Grammar B) (after : Kinds) : Type 0 where
  pub none : sees_one look [] ≡ false
  pub seen : (n : ℕ) (s : S) (ts p l : List Lexeme) → sees_one look ts ≡ true → ts ≡ p ++ l → BeginsBy n b p → PieceBegins n a step b s p
  pub unseen : (n : ℕ) (s : S) (ts p l : List Lexeme) → sees_one look ts ≡ false → ts ≡ p ++ l → PieceBegins n a step b s p → BeginsBy n b p
  pub at_piece : (s : S) (p rest : List Lexeme) (z : List A × B) → PieceSpells a step b s p z → Follow after rest → sees_one look (p ++ rest) ≡ true
  pub at_end : (p rest : List Lexeme) (y : B) → Spells b p y → Follow after rest → sees_one look (p ++ rest) ≡ false

-- Each choice shows by the tokens in front, where tokens of these kinds may come after the form.
abbrev pub Sure : {A : Type 0} → Grammar A → Kinds → Type 0
Sure (nothing x) after = Unit {0}
Sure (token ks) after = Unit {0}
Sure (refused j ks) after = Unit {0}
Sure (both f a b) after = Sure a (next b after) × Sure b after
Sure (either a b) after = Sure a after × Sure b after × (may_be_empty a ≡ false) × (disjoint (first a) (next b after) ≡ true)
Sure (many {S} f look a step t b) after = ((s : S) → Sure (a s) (first (a t) ++ next b after)) × ((s : S) → first (a s) ≡ first (a t)) × ((s : S) → may_be_empty (a s) ≡ false) × Sure b after × Tells look a step b after
Sure (given {A} f a b) after = Sure a [] × ((x : A) → Sure a (next (b x) after) × Sure (b x) after) × (may_be_empty a ≡ false)

cond_parts : (b c : Bool) → cond b false c ≡ true → (b ≡ false) × (c ≡ true)
cond_parts true c e = absurd cc
cond_parts false c e = (refl, e)

pub or_cases : (b c : Bool) → (b || c) ≡ true → (b ≡ true) ⊎ (c ≡ true)
or_cases true c e = inl refl
or_cases false c e = inr e

pub apart : (ks ms : Kinds) (k : Kind) → disjoint ks ms ≡ true → has ks k ≡ true → has ms k ≡ true → ⊥
apart [] ms k d h g = cc
apart (j ∷ ks) ms k d h g =
    let p = cond_parts (has ms j) (disjoint ks ms) d in
    elim (or_cases (number k == number j) (has ks k) h) [
      | inl e ↦ not_both (has ms j) (subst (λ (n : ℕ). among ms n ≡ true) (eqb-true (number k) (number j) e) g) p.0
      | inr e ↦ apart ks ms k p.1 e g
    ]

pub into : (m : Bool) (ks ms : Kinds) (k : Kind) → has ks k ≡ true → has (cond m (ks ++ ms) ks) k ≡ true
into true ks ms k h = has_left ks ms k h
into false ks ms k h = h

pub into_right : (m : Bool) (ks ms : Kinds) (k : Kind) → m ≡ true → has ms k ≡ true → has (cond m (ks ++ ms) ks) k ≡ true
into_right true ks ms k e h = has_right ks ms k h
into_right false ks ms k e h = absurd cc

-- a spelled front holds the first token, or is empty
from_front : {A : Type 0} (a : Grammar A) → ((t : Lexeme) (ts : List Lexeme) → BeginsBy 0 a (t ∷ ts) → has (first a) t.kind ≡ true) → (t : Lexeme) (ts : List Lexeme) (x : A) (front rest : List Lexeme) → t ∷ ts ≡ front ++ rest → Spells a front x
    → (has (first a) t.kind ≡ true) ⊎ ((may_be_empty a ≡ true) × (rest ≡ t ∷ ts))
from_front a f t ts x [] rest e s = inr (empty_when a x s, sym e)
from_front a f t ts x (u ∷ front) rest e s = inl (let same : u ≡ t = cc in subst (λ (w : Lexeme). has (first a) w.kind ≡ true) same (f u front ((laws 0 a).begun (u ∷ front) x s)))

pub starts : (n : ℕ) {A : Type 0} (g : Grammar A) (after : Kinds) → Sure g after → (t : Lexeme) (ts : List Lexeme) → BeginsBy n g (t ∷ ts) → has (first g) t.kind ≡ true
starts n (nothing x) after s t ts h = absurd cc
starts n (token ks) after s t ts (inl e) = absurd cc
starts n (token ks) after s t ts (inr h) = let e : t ≡ h.0 = let k = h.1 in cc in subst (λ (w : Lexeme). has ks w.kind ≡ true) (sym e) h.2
starts n (refused j ks) after s t ts (inl e) = absurd cc
starts n (refused j ks) after s t ts (inr h) = let e : t ≡ h.0 = let k = h.1 in cc in subst (λ (w : Lexeme). has ks w.kind ≡ true) (sym e) h.2
starts n (both f a b) after s t ts (inl p) = into (may_be_empty a) (first a) (first b) t.kind (starts n a (next b after) s.0 t ts p)
starts n (both f a b) after s t ts (inr q) = elim (from_front a (λ t ts p. starts 0 a (next b after) s.0 t ts p) t ts q.0 q.1 q.2 q.3 q.4) [
  | inl h ↦ into (may_be_empty a) (first a) (first b) t.kind h
  | inr h ↦ into_right (may_be_empty a) (first a) (first b) t.kind h.0 (starts n b after s.1 t ts (subst (BeginsBy n b) h.1 q.5))
]
starts n (either a b) after s t ts (inl p) = has_left (first a) (first b) t.kind (starts n a after s.0 t ts p)
starts n (either a b) after s t ts (inr p) = has_right (first a) (first b) t.kind (starts n b after s.1 t ts p)
starts n (many f look a step m b) after s t ts (piece p) = has_left (first (a m)) (first b) t.kind (starts n (a m) (first (a m) ++ next b after) (s.0 m) t ts p)
starts n (many f look a step m b) after s t ts (end p) = has_right (first (a m)) (first b) t.kind (starts n b after s.3 t ts p)
starts n (many f look a step m b) after s t ts (later x front rest parts sp h) = elim (from_front (a m) (λ t ts p. starts 0 (a m) (first (a m) ++ next b after) (s.0 m) t ts p) t ts x front rest parts sp) [
  | inl k ↦ has_left (first (a m)) (first b) t.kind k
  | inr k ↦ absurd (not_both (may_be_empty (a m)) k.0 (s.2 m))
]
starts n (given f a b) after s t ts (inl p) = starts n a [] s.0 t ts p
starts n (given f a b) after s t ts (inr q) = elim (from_front a (λ t ts p. starts 0 a [] s.0 t ts p) t ts q.0 q.1 q.2 q.3 q.4) [
  | inl h ↦ h
  | inr h ↦ absurd (not_both (may_be_empty a) h.0 s.2)
]

-- what begins the form may stand before it
meets_follow : (n : ℕ) {A : Type 0} (g : Grammar A) (after : Kinds) → Sure g after → (rest : List Lexeme) → Meets (BeginsBy n g) rest → Follow (next g after) rest
meets_follow n g after s [] m = tt
meets_follow n g after s (t ∷ rest) m = into (may_be_empty g) (first g) after t.kind (starts n g after s t [] m)

follow_next : {A : Type 0} (g : Grammar A) (after : Kinds) → Sure g after → (xs rest : List Lexeme) (v : A) → Spells g xs v → Follow after rest → Follow (next g after) (xs ++ rest)
follow_next g after s [] [] v h f = tt
follow_next g after s [] (t ∷ rest) v h f = into_right (may_be_empty g) (first g) after t.kind (empty_when g v h) f
follow_next g after s (t ∷ xs) rest v h f = into (may_be_empty g) (first g) after t.kind (starts 0 g after s t xs ((laws 0 g).begun (t ∷ xs) v h))

pub seen_by : (ks : Kinds) (t : Lexeme) (ts : List Lexeme) → has ks t.kind ≡ true → sees (ks ∷ []) (t ∷ ts) ≡ true
seen_by ks t ts h = rw h refl

pub off_when : (b : Bool) → (b ≡ true → ⊥) → b ≡ false
off_when true h = absurd (h refl)
off_when false h = refl

pub unseen_by : (ks ms : Kinds) (ts : List Lexeme) → disjoint ks ms ≡ true → Follow ms ts → sees (ks ∷ []) ts ≡ false
unseen_by ks ms [] d f = refl
unseen_by ks ms (t ∷ ts) d f = let e : has ks t.kind ≡ false = off_when (has ks t.kind) (λ h. apart ks ms t.kind d h f) in rw e refl

spelled_seen : {A : Type 0} (a : Grammar A) (after : Kinds) → Sure a after → may_be_empty a ≡ false → (xs rest : List Lexeme) (v : A) → Spells a xs v → sees (first a ∷ []) (xs ++ rest) ≡ true
spelled_seen a after s w [] rest v h = absurd (not_both (may_be_empty a) (empty_when a v h) w)
spelled_seen a after s w (t ∷ xs) rest v h = seen_by (first a) t (xs ++ rest) (starts 0 a after s t xs ((laws 0 a).begun (t ∷ xs) v h))

none_seen : (look : Look) (ts : List Lexeme) → length ts ≤ 0 → sees_one look [] ≡ false → sees_one look ts ≡ true → ⊥
none_seen look [] le n s = not_both (sees_one look []) s n
none_seen look (t ∷ ts) le n s = omega (arith, le)

-- pieces that are spelled are read again
module _ {S A B : Type 0} (look : Look) (a : S → Grammar A) (step : S → A → S) (b : Grammar B) (ks after : Kinds)
    (sa : (s : S) → Sure (a s) (ks ++ next b after)) (fs : (s : S) → first (a s) ≡ ks) (w : (s : S) → may_be_empty (a s) ≡ false) (sb : Sure b after) where
  first_kind : (s : S) (t : Lexeme) → has (first (a s)) t.kind ≡ true → has (ks ++ next b after) t.kind ≡ true
  first_kind s t h = has_left ks (next b after) t.kind (subst (λ (m : Kinds). has m t.kind ≡ true) (fs s) h)

  -- a piece, or what comes after the pieces, begins with this token
  pub begins_kind : (n : ℕ) (s : S) (t : Lexeme) (us : List Lexeme) → ManyBegins (λ s. Spells (a s)) step (λ s. BeginsBy n (a s)) (BeginsBy n b) s (t ∷ us) → has (ks ++ next b after) t.kind ≡ true
  begins_kind n s t us (piece h) = first_kind s t (starts n (a s) (ks ++ next b after) (sa s) t us h)
  begins_kind n s t us (end h) = has_right ks (next b after) t.kind (into (may_be_empty b) (first b) after t.kind (starts n b after sb t us h))
  begins_kind n s t us (later x front rest parts sp h) = elim (from_front (a s) (λ t ts p. starts 0 (a s) (ks ++ next b after) (sa s) t ts p) t us x front rest parts sp) [
    | inl k ↦ first_kind s t k
    | inr k ↦ absurd (not_both (may_be_empty (a s)) k.0 (w s))
  ]

  follow_many : (s : S) (xs rest : List Lexeme) (z : List A × B) → ManySpells (λ s. Spells (a s)) step (Spells b) s xs z → Follow after rest → Follow (ks ++ next b after) (xs ++ rest)
  follow_many s [] [] z h f = tt
  follow_many s [] (t ∷ rest) z h f = has_right ks (next b after) t.kind (into_right (may_be_empty b) (first b) after t.kind (many_empty (λ s. Spells (a s)) step (Spells b) (may_be_empty b) (λ y q. empty_when b y q) h refl) f)
  follow_many s (t ∷ xs) rest z h f = begins_kind 0 s t xs ((many_laws (λ s. Spells (a s)) step (λ s. Begins (a s)) (Begins b) (λ s. laws 0 (a s)) (Spells b) (laws 0 b) s).begun (t ∷ xs) z h)

  meets_many : (n : ℕ) (s : S) (rest : List Lexeme) → Meets (ManyBegins (λ s. Spells (a s)) step (λ s. BeginsBy n (a s)) (BeginsBy n b) s) rest → Follow (ks ++ next b after) rest
  meets_many n s [] m = tt
  meets_many n s (t ∷ rest) m = begins_kind n s t [] m

  module _ (tells : Tells look a step b after)
      (ra : (s : S) (xs rest : List Lexeme) (v : A) → Spells (a s) xs v → Follow (ks ++ next b after) rest → reading (a s) (xs ++ rest) ≡ Ok (v, rest))
      (rb : (xs rest : List Lexeme) (v : B) → Spells b xs v → Follow after rest → reading b (xs ++ rest) ≡ Ok (v, rest)) (rest : List Lexeme) (f : Follow after rest) where
    many_again : (n : ℕ) (s : S) (xs : List Lexeme) (z : List A × B) → ManySpells (λ s. Spells (a s)) step (Spells b) s xs z → length (xs ++ rest) ≤ n → repeat n look (λ s. reading (a s)) step (reading b) s (xs ++ rest) ≡ Ok (z, rest)
    many_again zero s xs z (last y h e) le = let r = rb xs rest y h f in rw (r, e) refl
    many_again (suc n) s xs z (last y h e) le = let r = rb xs rest y h f in let l = tells.at_end xs rest y h f in rw (l, r, e) refl
    many_again zero s xs z (more x k front back parts sp h e) le = absurd (none_seen look (xs ++ rest) le tells.none (tells.at_piece s xs rest z (x, k, front, back, parts, sp, h, e) f))
    many_again (suc n) s xs z (more x k front back parts sp h e) le =
        let l = tells.at_piece s xs rest z (x, k, front, back, parts, sp, h, e) f in
        let cut_is : xs ++ rest ≡ front ++ (back ++ rest) = ap (λ (us : List Lexeme). us ++ rest) parts ∙ append_assoc front back rest in
        let r : reading (a s) (xs ++ rest) ≡ Ok (x, back ++ rest) = ap (reading (a s)) cut_is ∙ ra s front (back ++ rest) x sp (follow_many (step s x) back rest k h f) in
        let less : length (back ++ rest) < length (xs ++ rest) = subst (λ (c : Bool). Shorter c (xs ++ rest) (back ++ rest)) (w s) (shrinks (a s) (xs ++ rest) (x, back ++ rest) r) in
        let i = many_again n (step s x) back k h (omega (arith, less, le)) in
        rw (l, r, i, e) refl

pub again : {A : Type 0} (g : Grammar A) (after : Kinds) → Sure g after → (xs rest : List Lexeme) (v : A) → Spells g xs v → Follow after rest → reading g (xs ++ rest) ≡ Ok (v, rest)
again (nothing x) after s xs rest v h f = rw (h.0, h.1) refl
again (token ks) after s xs rest v h f = rw (h.0, h.1) refl
again (refused j ks) after s xs rest v h f = absurd h
again (both g a b) after s xs rest v h f =
    let cut_is : xs ++ rest ≡ h.2 ++ (h.3 ++ rest) = ap (λ (us : List Lexeme). us ++ rest) h.4 ∙ append_assoc h.2 h.3 rest in
    let ra : reading a (xs ++ rest) ≡ Ok (h.0, h.3 ++ rest) = ap (reading a) cut_is ∙ again a (next b after) s.0 h.2 (h.3 ++ rest) h.0 h.5 (follow_next b after s.1 h.3 rest h.1 h.6 f) in
    let rb = again b after s.1 h.3 rest h.1 h.6 f in
    let e = h.7 in
    rw (ra, rb, e) refl
again (either a b) after s xs rest v (inl h) f =
    let l = spelled_seen a after s.0 s.2 xs rest v h in
    let r = again a after s.0 xs rest v h f in
    rw (l, r) refl
again (either a b) after s xs rest v (inr h) f =
    let l = unseen_by (first a) (next b after) (xs ++ rest) s.3 (follow_next b after s.1 xs rest v h f) in
    let r = again b after s.1 xs rest v h f in
    rw (l, r) refl
again (many g look a step t b) after s xs rest v h f =
    let r = many_again look a step b (first (a t)) after s.0 s.1 s.2 s.3 s.4 (λ m xs rest v h f. again (a m) (first (a t) ++ next b after) (s.0 m) xs rest v h f) (λ xs rest v h f. again b after s.3 xs rest v h f) rest f (length (xs ++ rest)) t xs h.0 h.1 (omega arith) in
    let e = h.2 in
    rw (r, e) refl
again (given g a b) after s xs rest v h f =
    let cut_is : xs ++ rest ≡ h.2 ++ (h.3 ++ rest) = ap (λ (us : List Lexeme). us ++ rest) h.4 ∙ append_assoc h.2 h.3 rest in
    let ra : reading a (xs ++ rest) ≡ Ok (h.0, h.3 ++ rest) = ap (reading a) cut_is ∙ again a (next (b h.0) after) (s.1 h.0).0 h.2 (h.3 ++ rest) h.0 h.5 (follow_next (b h.0) after (s.1 h.0).1 h.3 rest h.1 h.6 f) in
    let rb = again (b h.0) after (s.1 h.0).1 h.3 rest h.1 h.6 f in
    let e = h.7 in
    rw (ra, rb, e) refl

-- the same tokens, and what they spell and begin
transfer : {A : Type 0} (S S' : List Lexeme → A → Type 0) (P P' : ℕ → List Lexeme → Type 0) (ts : List Lexeme) (r : Read A)
    → ((p : List Lexeme) (v : A) → S p v → S' p v) → ((k : ℕ) (p : List Lexeme) → P k p → P' k p) → ((k : ℕ) (p l : List Lexeme) → ts ≡ p ++ l → P' k p → P k p) → ((v : A) → S' ts v → S ts v) → Exact S P ts r → Exact S' P' ts r
transfer {A} S S' P P' ts (Ok x) su pu pd sd g = record { front = g.front; parts = g.parts; spelled = su g.front x.0 g.spelled; off = λ k. off_of k g.front x.1 g.parts (g.off k) } where
  off_of : (k : ℕ) (front left : List Lexeme) → ts ≡ front ++ left → Off (P k) front left → Off (P' k) front left
  off_of k front [] e o = tt
  off_of k front (t ∷ left) e o = λ h. o (pd k (front ++ t ∷ []) left (e ∙ sym (append_assoc front (t ∷ []) left)) h)
transfer {A} S S' P P' ts (Err l) su pu pd sd g = record {
  front = g.front;
  parts = g.parts;
  begun = pu 0 g.front g.begun;
  off = off_of 0 g.front l.0 g.parts g.off;
  open_end = λ e v h.
      let is : ts ≡ g.front = g.parts ∙ ap (λ (us : List Lexeme). g.front ++ us) e ∙ append-nil g.front in
      g.open_end e v (subst (λ (us : List Lexeme). S us v) is (sd v (subst (λ (us : List Lexeme). S' us v) (sym is) h)));
  reason = record { only = λ k o. g.reason.only k (on_down k g.front l.0 g.parts o); so = λ k e. on_up k g.front l.0 (g.reason.so k e) };
} where
  off_of : (k : ℕ) (front left : List Lexeme) → ts ≡ front ++ left → Off (P k) front left → Off (P' k) front left
  off_of k front [] e o = tt
  off_of k front (t ∷ left) e o = λ h. o (pd k (front ++ t ∷ []) left (e ∙ sym (append_assoc front (t ∷ []) left)) h)

  on_down : (k : ℕ) (front left : List Lexeme) → ts ≡ front ++ left → On (P' (suc k)) front left → On (P (suc k)) front left
  on_down k front [] e o = o
  on_down k front (t ∷ left) e o = pd (suc k) (front ++ t ∷ []) left (e ∙ sym (append_assoc front (t ∷ []) left)) o

  on_up : (k : ℕ) (front left : List Lexeme) → On (P (suc k)) front left → On (P' (suc k)) front left
  on_up k front [] o = o
  on_up k front (t ∷ left) o = pu (suc k) (front ++ t ∷ []) o

-- the value by a function
valued : {A B : Type 0} (f : A → B) (S : List Lexeme → A → Type 0) (P : ℕ → List Lexeme → Type 0) (ts : List Lexeme) (r : Read A)
    → Exact S P ts r → Exact (λ us v. (z : A) × S us z × (v ≡ f z)) P ts (r >>= λ z. Ok (f z.0, z.1))
valued f S P ts (Ok x) g = record { front = g.front; parts = g.parts; spelled = (x.0, g.spelled, refl); off = g.off }
valued f S P ts (Err left) g = record { front = g.front; parts = g.parts; begun = g.begun; off = g.off; open_end = λ e v h. g.open_end e h.0 h.1; reason = g.reason }

token_past : (ks : Kinds) (t u : Lexeme) → ((t ∷ u ∷ [] ≡ []) ⊎ ((w : Lexeme) × (t ∷ u ∷ [] ≡ w ∷ []) × (has ks w.kind ≡ true))) → ⊥
token_past ks t u (inl e) = absurd cc
token_past ks t u (inr h) = let bad = h.1 in absurd cc

token_other : (ks : Kinds) (t : Lexeme) → has ks t.kind ≡ false → ((t ∷ [] ≡ []) ⊎ ((w : Lexeme) × (t ∷ [] ≡ w ∷ []) × (has ks w.kind ≡ true))) → ⊥
token_other ks t off (inl e) = absurd cc
token_other ks t off (inr h) = not_both (has ks t.kind) (let e : t ≡ h.0 = let k = h.1 in cc in subst (λ (w : Lexeme). has ks w.kind ≡ true) (sym e) h.2) off

token_exact : (ks : Kinds) (ts : List Lexeme) → Exact (Spells (token ks)) (λ k. BeginsBy k (token ks)) ts (read_token ks ts)
token_exact ks [] = record { front = []; parts = refl; begun = inl refl; off = tt; open_end = λ e v h. let bad = h.0 in absurd cc; reason = record { only = λ k o. absurd o; so = λ k e. absurd cc } }
token_exact ks (t ∷ ts) = by_kind (has ks t.kind) refl where
  off_of : (k : ℕ) (us : List Lexeme) → Off (BeginsBy k (token ks)) (t ∷ []) us
  off_of k [] = tt
  off_of k (u ∷ us) = λ h. token_past ks t u h

  by_kind : (b : Bool) → has ks t.kind ≡ b → Exact (Spells (token ks)) (λ k. BeginsBy k (token ks)) (t ∷ ts) (cond b (Ok (t, ts)) (Err (t ∷ ts, 0)))
  by_kind true e = record { front = t ∷ []; parts = refl; spelled = (refl, e); off = λ k. off_of k ts }
  by_kind false e = record { front = []; parts = refl; begun = inl refl; off = λ h. token_other ks t e h; open_end = λ k v h. let bad = h.0 in absurd cc; reason = record { only = λ k o. absurd (token_other ks t e o); so = λ k n. absurd cc } }

refused_exact : (A : Type 0) (j : ℕ) (ks : Kinds) (ts : List Lexeme) → Exact (Spells (refused {A = A} j ks)) (λ k. BeginsBy k (refused {A = A} j ks)) ts (read_refused {A = A} j ks ts)
refused_exact A j ks [] = record { front = []; parts = refl; begun = inl refl; off = tt; open_end = λ e v h. absurd h; reason = record { only = λ k o. absurd o; so = λ k e. absurd cc } }
refused_exact A j ks (t ∷ ts) = by_kind (has ks t.kind) refl where
  zero_off : ((t ∷ [] ≡ []) ⊎ ((w : Lexeme) × (t ∷ [] ≡ w ∷ []) × (has ks w.kind ≡ true) × (0 ≡ suc j))) → ⊥
  zero_off (inl e) = absurd cc
  zero_off (inr h) = let bad = h.3 in absurd cc

  only_j : (k : ℕ) → ((t ∷ [] ≡ []) ⊎ ((w : Lexeme) × (t ∷ [] ≡ w ∷ []) × (has ks w.kind ≡ true) × (suc k ≡ suc j))) → suc j ≡ suc k
  only_j k (inl e) = absurd cc
  only_j k (inr h) = sym h.3

  none_so : (k : ℕ) → has ks t.kind ≡ false → ((t ∷ [] ≡ []) ⊎ ((w : Lexeme) × (t ∷ [] ≡ w ∷ []) × (has ks w.kind ≡ true) × (suc k ≡ suc j))) → ⊥
  none_so k off (inl e) = absurd cc
  none_so k off (inr h) = token_other ks t off (inr (h.0, h.1, h.2))

  by_kind : (b : Bool) → has ks t.kind ≡ b → Exact (Spells (refused {A = A} j ks)) (λ k. BeginsBy k (refused {A = A} j ks)) (t ∷ ts) (cond {A = Read A} b (Err (t ∷ ts, suc j)) (Err (t ∷ ts, 0)))
  by_kind true e = record { front = []; parts = refl; begun = inl refl; off = λ h. zero_off h; open_end = λ k v h. absurd h; reason = record { only = λ k o. only_j k o; so = λ k n. inr (t, refl, e, sym n) } }
  by_kind false e = record { front = []; parts = refl; begun = inl refl; off = λ h. zero_off h; open_end = λ k v h. absurd h; reason = record { only = λ k o. absurd (none_so k e o); so = λ k n. absurd cc } }

-- a part, and then another that the value decides
module _ {A B C : Type 0} (a : Grammar A) (S : A → List Lexeme → B → Type 0) (P : ℕ → A → List Lexeme → Type 0) (f : A → B → C) (b : (k : ℕ) (x : A) → Laws (S x) (P k x)) (ts : List Lexeme)
    (ea : Exact (Spells a) (λ k. BeginsBy k a) ts (reading a ts)) (ag : Again (Spells a) P ts (reading a ts)) (rb : A × List Lexeme → Read B) (eb : (x : A × List Lexeme) → reading a ts ≡ Ok x → Exact (S x.0) (λ k. P k x.0) x.1 (rb x)) where
  then_exact : Exact (Then (Spells a) S f) (λ k. ThenBegins (Spells a) (BeginsBy k a) (P k)) ts (reading a ts >>= λ x. rb x >>= λ y. Ok (f x.0 y.0, y.1))
  then_exact = of (reading a ts) ea ag eb where
    of : (r : Read A) → Exact (Spells a) (λ k. BeginsBy k a) ts r → Again (Spells a) P ts r → ((x : A × List Lexeme) → r ≡ Ok x → Exact (S x.0) (λ k. P k x.0) x.1 (rb x)) → Exact (Then (Spells a) S f) (λ k. ThenBegins (Spells a) (BeginsBy k a) (P k)) ts (r >>= λ x. rb x >>= λ y. Ok (f x.0 y.0, y.1))
    of (Ok x) e g k = second_reads (Spells a) (λ k. BeginsBy k a) S P f (λ k. laws k a) b ts x.0 x.1 e g (rb x) (k x refl)
    of (Err l) e g k = first_stops (Spells a) (λ k. BeginsBy k a) S P f (λ k. laws k a) b ts l.0 l.1 e g

module _ {S A B : Type 0} (look : Look) (a : S → Grammar A) (step : S → A → S) (b : Grammar B) (after : Kinds) (tells : Tells look a step b after) (wide : (s : S) → may_be_empty (a s) ≡ false)
    (ea : (s : S) (ts : List Lexeme) → Exact (Spells (a s)) (λ k. BeginsBy k (a s)) ts (reading (a s) ts)) (eb : (ts : List Lexeme) → Exact (Spells b) (λ k. BeginsBy k b) ts (reading b ts))
    (ag : (s : S) (ts : List Lexeme) → Again (Spells (a s)) (λ k x. ManyBegins (λ s. Spells (a s)) step (λ s. BeginsBy k (a s)) (BeginsBy k b) (step s x)) ts (reading (a s) ts)) where
  abbrev V : S → List Lexeme → List A × B → Type 0
  V s = ManySpells (λ s. Spells (a s)) step (Spells b) s

  abbrev P : ℕ → S → List Lexeme → Type 0
  P k s = ManyBegins (λ s. Spells (a s)) step (λ s. BeginsBy k (a s)) (BeginsBy k b) s

  last_exact : (s : S) (ts : List Lexeme) → sees_one look ts ≡ false → Exact (V s) (λ k. P k s) ts (reading b ts >>= λ y. Ok (([], y.0), y.1))
  last_exact s ts dark = transfer (λ us v. (y : B) × Spells b us y × (v ≡ ([], y))) (V s) (λ k. BeginsBy k b) (λ k. P k s) ts (reading b ts >>= λ y. Ok (([], y.0), y.1))
      (λ p v h. last h.0 h.1 h.2) (λ k p h. end h) (λ k p l e h. down k p l e h) (λ v h. back v h) (valued (λ y. ([], y)) (Spells b) (λ k. BeginsBy k b) ts (reading b ts) (eb ts)) where
        down : (k : ℕ) (p l : List Lexeme) → ts ≡ p ++ l → ManyBegins (λ s. Spells (a s)) step (λ s. BeginsBy k (a s)) (BeginsBy k b) s p → BeginsBy k b p
        down k p l e (piece h) = tells.unseen k s ts p l dark e (inl h)
        down k p l e (end h) = h
        down k p l e (later x front rest parts sp h) = tells.unseen k s ts p l dark e (inr (x, front, rest, parts, sp, h))

        back : (v : List A × B) → ManySpells (λ s. Spells (a s)) step (Spells b) s ts v → (y : B) × Spells b ts y × (v ≡ ([], y))
        back v (last y h e) = (y, h, e)
        back v (more x z front rest parts sp h e) = absurd (not_both (sees_one look ts) (subst (λ (us : List Lexeme). sees_one look us ≡ true) (append-nil ts) (tells.at_piece s ts [] v (x, z, front, rest, parts, sp, h, e) tt)) dark)

  more_exact : (n : ℕ) → ((s : S) (ts : List Lexeme) → length ts ≤ n → Exact (V s) (λ k. P k s) ts (repeat n look (λ s. reading (a s)) step (reading b) s ts)) → (s : S) (ts : List Lexeme) → length ts ≤ suc n → Exact (V s) (λ k. P k s) ts (repeat (suc n) look (λ s. reading (a s)) step (reading b) s ts)
  more_exact n ih s ts le = by_look (sees_one look ts) refl where
    m_laws : (k : ℕ) (m : S) → Laws (V m) (P k m)
    m_laws k m = many_laws (λ s. Spells (a s)) step (λ s. BeginsBy k (a s)) (BeginsBy k b) (λ s. laws k (a s)) (Spells b) (laws k b) m

    piece_exact : Exact (PieceSpells a step b s) (λ k. PieceBegins k a step b s) ts (reading (a s) ts >>= λ x. repeat n look (λ s. reading (a s)) step (reading b) (step s x.0) x.1 >>= λ y. Ok ((x.0 ∷ y.0.0, y.0.1), y.1))
    piece_exact = then_exact (a s) (λ x. V (step s x)) (λ k x. P k (step s x)) (λ x z. (x ∷ z.0, z.1)) (λ k x. m_laws k (step s x)) ts (ea s ts) (ag s ts) (λ x. repeat n look (λ s. reading (a s)) step (reading b) (step s x.0) x.1)
        (λ x e. ih (step s x.0) x.1 (let less = subst (λ (c : Bool). Shorter c ts x.1) (wide s) (shrinks (a s) ts x e) in omega (arith, le, less)))

    into_many : (p : List Lexeme) (v : List A × B) → PieceSpells a step b s p v → V s p v
    into_many p v h = more h.0 h.1 h.2 h.3 h.4 h.5 h.6 h.7

    begun_many : (k : ℕ) (p : List Lexeme) → PieceBegins k a step b s p → P k s p
    begun_many k p (inl h) = piece h
    begun_many k p (inr h) = later h.0 h.1 h.2 h.3 h.4 h.5

    down : sees_one look ts ≡ true → (k : ℕ) (p l : List Lexeme) → ts ≡ p ++ l → P k s p → PieceBegins k a step b s p
    down lit k p l e (piece h) = inl h
    down lit k p l e (end h) = tells.seen k s ts p l lit e h
    down lit k p l e (later x front rest parts sp h) = inr (x, front, rest, parts, sp, h)

    back : sees_one look ts ≡ true → (v : List A × B) → V s ts v → PieceSpells a step b s ts v
    back lit v (last y h e) = absurd (not_both (sees_one look ts) lit (subst (λ (us : List Lexeme). sees_one look us ≡ false) (append-nil ts) (tells.at_end ts [] y h tt)))
    back lit v (more x z front rest parts sp h e) = (x, z, front, rest, parts, sp, h, e)

    by_look : (c : Bool) → sees_one look ts ≡ c → Exact (V s) (λ k. P k s) ts (cond c (reading (a s) ts >>= λ x. repeat n look (λ s. reading (a s)) step (reading b) (step s x.0) x.1 >>= λ y. Ok ((x.0 ∷ y.0.0, y.0.1), y.1)) (reading b ts >>= λ y. Ok (([], y.0), y.1)))
    by_look true lit = transfer (PieceSpells a step b s) (V s) (λ k. PieceBegins k a step b s) (λ k. P k s) ts (reading (a s) ts >>= λ x. repeat n look (λ s. reading (a s)) step (reading b) (step s x.0) x.1 >>= λ y. Ok ((x.0 ∷ y.0.0, y.0.1), y.1))
        (λ p v h. into_many p v h) (λ k p h. begun_many k p h) (λ k p l e h. down lit k p l e h) (λ v h. back lit v h) piece_exact
    by_look false dark = last_exact s ts dark

  many_exact : (n : ℕ) (s : S) (ts : List Lexeme) → length ts ≤ n → Exact (V s) (λ k. P k s) ts (repeat n look (λ s. reading (a s)) step (reading b) s ts)
  many_exact zero s [] le = last_exact s [] tells.none
  many_exact zero s (t ∷ ts) le = absurd (omega (arith, le))
  many_exact (suc n) s ts le = more_exact n (λ m us l. many_exact n m us l) s ts le

again_at : {A B : Type 0} (a : Grammar A) (b : Grammar B) (after : Kinds) → Sure a (next b after) → Sure b after → (ts : List Lexeme) → Again (Spells a) (λ k x. BeginsBy k b) ts (reading a ts)
again_at a b after sa sb ts k x xs rest e h m = ap (reading a) e ∙ again a (next b after) sa xs rest x h (meets_follow k b after sb rest m)

either_left : {A : Type 0} (a b : Grammar A) (after : Kinds) → Sure (either a b) after → (ts : List Lexeme) → sees (first a ∷ []) ts ≡ true → (r : Read A) → Exact (Spells a) (λ k. BeginsBy k a) ts r → Exact (Spells (either a b)) (λ k. BeginsBy k (either a b)) ts r
either_left a b after s [] lit r e = absurd cc
either_left a b after s (t ∷ ts) lit r e = transfer (Spells a) (Spells (either a b)) (λ k. BeginsBy k a) (λ k. BeginsBy k (either a b)) (t ∷ ts) r (λ p v h. inl h) (λ k p h. inl h) (λ k p l m h. down k p l m h) (λ v h. back v h) e where
  is_a : has (first a) t.kind ≡ true
  is_a = (and_parts (has (first a) t.kind) true lit).0

  not_b : (k : ℕ) (us : List Lexeme) → BeginsBy k b (t ∷ us) → ⊥
  not_b k us h = apart (first a) (next b after) t.kind s.3 is_a (into (may_be_empty b) (first b) after t.kind (starts k b after s.1 t us h))

  down : (k : ℕ) (p l : List Lexeme) → t ∷ ts ≡ p ++ l → BeginsBy k a p ⊎ BeginsBy k b p → BeginsBy k a p
  down k p l m (inl h) = h
  down k [] l m (inr h) = (laws k a).empty
  down k (u ∷ p) l m (inr h) = absurd (let same : u ≡ t = cc in not_b k p (subst (λ (w : Lexeme). BeginsBy k b (w ∷ p)) same h))

  back : (v : _) → Spells a (t ∷ ts) v ⊎ Spells b (t ∷ ts) v → Spells a (t ∷ ts) v
  back v (inl h) = h
  back v (inr h) = absurd (not_b 0 ts ((laws 0 b).begun (t ∷ ts) v h))

either_right : {A : Type 0} (a b : Grammar A) (after : Kinds) → Sure (either a b) after → (ts : List Lexeme) → sees (first a ∷ []) ts ≡ false → (r : Read A) → Exact (Spells b) (λ k. BeginsBy k b) ts r → Exact (Spells (either a b)) (λ k. BeginsBy k (either a b)) ts r
either_right {A} a b after s ts dark r e = transfer (Spells b) (Spells (either a b)) (λ k. BeginsBy k b) (λ k. BeginsBy k (either a b)) ts r (λ p v h. inr h) (λ k p h. inr h) (λ k p l m h. down k ts p l dark m h) (λ v h. back ts v dark h) e where
  not_a : (k : ℕ) (t : Lexeme) (ts us : List Lexeme) → sees (first a ∷ []) (t ∷ ts) ≡ false → BeginsBy k a (t ∷ us) → ⊥
  not_a k t ts us d h = not_both (sees (first a ∷ []) (t ∷ ts)) (seen_by (first a) t ts (starts k a after s.0 t us h)) d

  down : (k : ℕ) (ts p l : List Lexeme) → sees (first a ∷ []) ts ≡ false → ts ≡ p ++ l → BeginsBy k a p ⊎ BeginsBy k b p → BeginsBy k b p
  down k ts p l d m (inr h) = h
  down k ts [] l d m (inl h) = (laws k b).empty
  down k [] (u ∷ p) l d m (inl h) = absurd cc
  down k (t ∷ ts) (u ∷ p) l d m (inl h) = absurd (let same : u ≡ t = cc in not_a k t ts p d (subst (λ (w : Lexeme). BeginsBy k a (w ∷ p)) same h))

  back : (ts : List Lexeme) (v : A) → sees (first a ∷ []) ts ≡ false → Spells a ts v ⊎ Spells b ts v → Spells b ts v
  back ts v d (inr h) = h
  back ts v d (inl h) = absurd (not_both (sees (first a ∷ []) ts) (subst (λ (us : List Lexeme). sees (first a ∷ []) us ≡ true) (append-nil ts) (spelled_seen a after s.0 s.2 ts [] v h)) d)

either_exact : {A : Type 0} (a b : Grammar A) (after : Kinds) → Sure (either a b) after → (ts : List Lexeme) → Exact (Spells a) (λ k. BeginsBy k a) ts (reading a ts) → Exact (Spells b) (λ k. BeginsBy k b) ts (reading b ts) → Exact (Spells (either a b)) (λ k. BeginsBy k (either a b)) ts (reading (either a b) ts)
either_exact {A} a b after s ts ea eb = by_look (sees (first a ∷ []) ts) refl where
  by_look : (c : Bool) → sees (first a ∷ []) ts ≡ c → Exact (Spells (either a b)) (λ k. BeginsBy k (either a b)) ts (cond c (reading a ts) (reading b ts))
  by_look true lit = either_left a b after s ts lit (reading a ts) ea
  by_look false dark = either_right a b after s ts dark (reading b ts) eb

-- Reading gives the value that is spelled, stops where the tokens no longer begin the form, and says for which reason the token there is refused.
pub exact : {A : Type 0} (g : Grammar A) (after : Kinds) → Sure g after → (ts : List Lexeme) → Exact (Spells g) (λ k. BeginsBy k g) ts (reading g ts)
exact (nothing x) after s ts = record { front = []; parts = refl; spelled = (refl, refl); off = λ k. off_of ts } where
  off_of : (us : List Lexeme) → Off (λ us. us ≡ []) [] us
  off_of [] = tt
  off_of (u ∷ us) = λ h. absurd cc
exact (token ks) after s ts = token_exact ks ts
exact {A} (refused j ks) after s ts = refused_exact A j ks ts
exact (both f a b) after s ts = then_exact a (λ x. Spells b) (λ k x. BeginsBy k b) f (λ k x. laws k b) ts (exact a (next b after) s.0 ts) (again_at a b after s.0 s.1 ts) (λ x. reading b x.1) (λ x e. exact b after s.1 x.1)
exact {A} (either a b) after s ts = either_exact a b after s ts (exact a after s.0 ts) (exact b after s.1 ts)
exact (many f look a step m b) after s ts = valued (λ z. f z.0 z.1) (ManySpells (λ s. Spells (a s)) step (Spells b) m) (λ k. ManyBegins (λ s. Spells (a s)) step (λ s. BeginsBy k (a s)) (BeginsBy k b) m) ts (repeat (length ts) look (λ s. reading (a s)) step (reading b) m ts)
    (many_exact look a step b after s.4 s.2 (λ t ts. exact (a t) (first (a m) ++ next b after) (s.0 t) ts) (λ ts. exact b after s.3 ts)
    (λ t ts k x xs rest e h n. ap (reading (a t)) e ∙ again (a t) (first (a m) ++ next b after) (s.0 t) xs rest x h (meets_many look a step b (first (a m)) after s.0 s.1 s.2 s.3 k (step t x) rest n)) (length ts) m ts (omega arith))
exact (given f a b) after s ts = then_exact a (λ x. Spells (b x)) (λ k x. BeginsBy k (b x)) f (λ k x. laws k (b x)) ts (exact a [] s.0 ts)
    (λ k x xs rest e h m. ap (reading a) e ∙ again a (next (b x) after) (s.1 x).0 xs rest x h (meets_follow k (b x) after (s.1 x).1 rest m)) (λ x. reading (b x.0) x.1) (λ x e. exact (b x.0) after (s.1 x.0).1 x.1)

-- One token in front tells, where no token begins both a piece and what may come after the pieces.
module _ {S A B : Type 0} (a : S → Grammar A) (step : S → A → S) (b : Grammar B) (ks after : Kinds)
    (sa : (s : S) → Sure (a s) (ks ++ next b after)) (fs : (s : S) → first (a s) ≡ ks) (w : (s : S) → may_be_empty (a s) ≡ false) (sb : Sure b after) (d : disjoint ks (next b after) ≡ true) where
  in_b : (k : ℕ) (t : Lexeme) (us : List Lexeme) → BeginsBy k b (t ∷ us) → has (next b after) t.kind ≡ true
  in_b k t us h = into (may_be_empty b) (first b) after t.kind (starts k b after sb t us h)

  in_ks : (s : S) (t : Lexeme) → has (first (a s)) t.kind ≡ true → has ks t.kind ≡ true
  in_ks s t h = subst (λ (m : Kinds). has m t.kind ≡ true) (fs s) h

  in_a : (k : ℕ) (s : S) (t : Lexeme) (us : List Lexeme) → PieceBegins k a step b s (t ∷ us) → has ks t.kind ≡ true
  in_a k s t us (inl h) = in_ks s t (starts k (a s) (ks ++ next b after) (sa s) t us h)
  in_a k s t us (inr q) = elim (from_front (a s) (λ t ts p. starts 0 (a s) (ks ++ next b after) (sa s) t ts p) t us q.0 q.1 q.2 q.3 q.4) [
    | inl h ↦ in_ks s t h
    | inr h ↦ absurd (not_both (may_be_empty (a s)) h.0 (w s))
  ]

  seen_at : (k : ℕ) (s : S) (ts p l : List Lexeme) → sees (ks ∷ []) ts ≡ true → ts ≡ p ++ l → BeginsBy k b p → PieceBegins k a step b s p
  seen_at k s ts [] l lit e h = inl (laws k (a s)).empty
  seen_at k s [] (u ∷ p) l lit e h = absurd cc
  seen_at k s (t ∷ ts) (u ∷ p) l lit e h = absurd (let same : u ≡ t = cc in apart ks (next b after) t.kind d (and_parts (has ks t.kind) true lit).0 (subst (λ (v : Lexeme). has (next b after) v.kind ≡ true) same (in_b k u p h)))

  unseen_at : (k : ℕ) (s : S) (ts p l : List Lexeme) → sees (ks ∷ []) ts ≡ false → ts ≡ p ++ l → PieceBegins k a step b s p → BeginsBy k b p
  unseen_at k s ts [] l dark e h = (laws k b).empty
  unseen_at k s [] (u ∷ p) l dark e h = absurd cc
  unseen_at k s (t ∷ ts) (u ∷ p) l dark e h = absurd (let same : u ≡ t = cc in not_both (sees (ks ∷ []) (t ∷ ts)) (seen_by ks t ts (subst (λ (v : Lexeme). has ks v.kind ≡ true) same (in_a k s u p h))) dark)

  piece_at : (s : S) (p rest : List Lexeme) (x : A) (front back : List Lexeme) → p ≡ front ++ back → Spells (a s) front x → sees (ks ∷ []) (p ++ rest) ≡ true
  piece_at s p rest x front back parts h = subst (λ (us : List Lexeme). sees (ks ∷ []) us ≡ true) (sym (ap (λ (us : List Lexeme). us ++ rest) parts ∙ append_assoc front back rest)) (subst (λ (m : Kinds). sees (m ∷ []) (front ++ (back ++ rest)) ≡ true) (fs s) (spelled_seen (a s) (ks ++ next b after) (sa s) (w s) front (back ++ rest) x h))

  pub one_tells : Tells ((ks ∷ []) ∷ []) a step b after
  one_tells = record {
    none = refl;
    seen = λ k s ts p l lit e h. seen_at k s ts p l lit e h;
    unseen = λ k s ts p l dark e h. unseen_at k s ts p l dark e h;
    at_piece = λ s p rest z h f. piece_at s p rest h.0 h.2 h.3 h.4 h.5;
    at_end = λ p rest y h f. unseen_by ks (next b after) (p ++ rest) d (follow_next b after sb p rest y h f);
  }

pub plain_sure : {A B C : Type 0} (f : List A → B → C) (a : Grammar A) (b : Grammar B) (after : Kinds) → Sure a (first a ++ next b after) → Sure b after → may_be_empty a ≡ false → disjoint (first a) (next b after) ≡ true → Sure (plain f ((first a ∷ []) ∷ []) a b) after
plain_sure f a b after sa sb w d = ((λ s. sa), (λ s. refl), (λ s. w), sb, one_tells {S = Unit {0}} (λ s. a) (λ s x. s) b (first a) after (λ s. sa) (λ s. refl) (λ s. w) sb d)
