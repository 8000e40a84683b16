-- How stages come out, one after another.
use Rattle.std.proofs.Common.{◌≡◌, ◌⊎◌, ℕ, suc, ◌+◌, ◌<◌, ◌≤◌, List, [], ◌∷◌, ◌++◌, length, drop, get_or, Result, Ok, Err, inl, inr, sym, ◌∙◌, subst, refl, ap, append_assoc, add-one, append-nil, arith, Contains}
use Rattle.std.proofs.Math.Seq.{drop-cons}
use Rattle.std.proofs.lemmas.List.{drop_all}
use Rattle.std.proofs.lemmas.List.Elements.{Contains-append_left, Contains-append_right}
use Rattle.clean_stage.specs.declared.halt.Refusal.{Refusal}
use Rattle.clean_stage.specs.declared.halt.Halt.{Halt}
use Rattle.clean_stage.specs.declared.halt.Halt.TheVariants.{Refused, OutOfMemory}
use Rattle.std.specs.Result.{IsErrAnd}
use Rattle.clean_stage.specs.Stage.{Stage, ◌>>=◌, done, test, before, every, Out, IsOnce, Settles, Alike, SettlesAs, Comes, behind_front, Leaves}

-- how two stages come out: the second decides, or the first refuses
behind : {A B : Type 0} (s : Stage A) (t : A → Stage B) (a : A) → Settles s (Ok a) → (r : Result B Refusal) → Out (s >>= t) r → Out (t a) r
unfolding ◌>>=◌
behind {A} {B} s t a first (Ok b) out =
    let same = first.only (Ok out.0) out.1 in
    let e : out.0 ≡ a = cc in
    subst (λ (x : A). (t x).gives b) e out.2
behind {A} {B} s t a first (Err f) out = elim out [
  | inl early ↦ absurd (let clash = first.only (Err f) early in cc)
  | inr late ↦
      let same = first.only (Ok late.0) late.1 in
      let e : late.0 ≡ a = cc in
      subst (λ (x : A). (t x).refuses f) e late.2
]

ahead : {A B : Type 0} (s : Stage A) (t : A → Stage B) (a : A) → s.gives a → (r : Result B Refusal) → Out (t a) r → Out (s >>= t) r
unfolding ◌>>=◌
ahead s t a gives (Ok b) out = (a, gives, out)
ahead s t a gives (Err f) out = inr (a, gives, out)

ends : {A B : Type 0} (s : Stage A) (t : A → Stage B) (f : Refusal) → Settles s (Err f) → (r : Result B Refusal) → Out (s >>= t) r → r ≡ Err f
unfolding ◌>>=◌
ends s t f first (Ok b) out = absurd (let clash = first.only (Ok out.0) out.1 in cc)
ends s t f first (Err g) out = elim out [
  | inl early ↦ let same = first.only (Err g) early in let e : g ≡ f = cc in ap Err e
  | inr late ↦ absurd (let clash = first.only (Ok late.0) late.1 in cc)
]

early : {A B : Type 0} (s : Stage A) (t : A → Stage B) (f : Refusal) → s.refuses f → (s >>= t).refuses f
unfolding ◌>>=◌
early s t f refuses = inl refuses

-- the value of the first, or its refusal
abbrev Split : {A B : Type 0} → Stage A → (A → Stage B) → Result B Refusal → Type 0
Split {A} s t r = ((a : A) × s.gives a × Out (t a) r) ⊎ ((f : Refusal) × s.refuses f × (r ≡ Err f))

split : {A B : Type 0} (s : Stage A) (t : A → Stage B) (r : Result B Refusal) → Out (s >>= t) r → Split s t r
unfolding ◌>>=◌
split s t (Ok b) out = inl out
split s t (Err f) out = elim out [ inl refuses ↦ inr (f, refuses, refl) | inr late ↦ inl late ]

settles_next : {A B : Type 0} {s : Stage A} (t : A → Stage B) {a : A} {r : Result B Refusal} → Settles s (Ok a) → Settles (t a) r → Settles (s >>= t) r
settles_next {s = s} t {a} {r} first next = record {
  out = ahead s t a first.out r next.out;
  only = λ q out. next.only q (behind s t a first q out);
}

settles_stop : {A B : Type 0} {s : Stage A} (t : A → Stage B) {f : Refusal} → Settles s (Err f) → Settles (s >>= t) (Err f)
settles_stop {s = s} t {f} first = record {
  out = early s t f first.out;
  only = λ q out. ends s t f first q out;
}

-- behind stages that settle, a last one that leaves its value open does the same for the whole
pub alike_next : {A B : Type 0} {like : B → B → Type 0} {s : Stage A} (t : A → Stage B) {a : A} {r : Result B Refusal} → Settles s (Ok a) → SettlesAs like (t a) r → SettlesAs like (s >>= t) r
alike_next {s = s} t {a} {r} first next = record {
  out = ahead s t a first.out r next.out;
  only = λ q out. next.only q (behind s t a first q out);
}

pub alike_stop : {A B : Type 0} (like : B → B → Type 0) {s : Stage A} (t : A → Stage B) {f : Refusal} → Settles s (Err f) → SettlesAs like (s >>= t) (Err f)
alike_stop {A} {B} like {s} t {f} first = record {
  out = early s t f first.out;
  only = λ q out. let e = ends s t f first q out in subst (λ (r : Result B Refusal). Alike like r (Err f)) (sym e) refl;
}

-- a stage that comes out in one way at most settles as it comes out
pub settles_once : {A : Type 0} {s : Stage A} → IsOnce s → (r : Result A Refusal) → Out s r → Settles s r
settles_once once r out = record { out = out; only = λ q other. once.same q r other out }

-- what two stages, each of which comes out in one way, come to
pub once_next : {A B : Type 0} {s : Stage A} (t : A → Stage B) → IsOnce s → ((a : A) → s.gives a → IsOnce (t a)) → IsOnce (s >>= t)
once_next {A} {B} {s} t first next = record {
  same = λ q r one other. elim (split s t q one) [
    | inl on ↦ sym ((settles_next t (settles_once first (Ok on.0) on.1) (settles_once (next on.0 on.1) q on.2)).only r other)
    | inr off ↦ off.2 ∙ sym ((settles_stop t (settles_once first (Err off.0) off.1)).only r other)
  ];
}

pub once_done : {A : Type 0} (a : A) → IsOnce (done a)
once_done {A} a = record { same = same } where
  same : (q r : Result A Refusal) → Out (done a) q → Out (done a) r → q ≡ r
  same (Ok b) (Ok c) one other = let e : b ≡ c = one ∙ sym other in ap Ok e
  same (Ok b) (Err f) one other = absurd other
  same (Err f) r one other = absurd one

pub once_every : {X A : Type 0} (stage : X → Stage A) (xs : List X) → ((x : X) → IsOnce (stage x)) → IsOnce (every stage xs)
once_every stage [] once = once_done []
once_every stage (x ∷ xs) once = once_next _ (once x) (λ a gives. once_next _ (once_every stage xs once) (λ rest given. once_done (a ∷ rest)))

-- the code: behind a piece that gave a value the next one decides, and a piece that stops decides
pub next : {A B : Type 0} {s : Stage A} (t : A → Stage B) {a : A} (r : Result B Halt) → Comes s (Ok a) → Comes (t a) r → Comes (s >>= t) r
next t (Ok b) first then = record { so = settles_next t first.so then.so }
next t (Err (Refused f)) first then = record { so = settles_next t first.so then.so }
next t (Err OutOfMemory) first then = record { so = tt }

pub stop : {A B : Type 0} {s : Stage A} (t : A → Stage B) (h : Halt) → Comes s (Err h) → Comes (s >>= t) (Err h)
stop t (Refused f) first = record { so = settles_stop t first.so }
stop t OutOfMemory first = record { so = tt }

pub out_of_memory : {A : Type 0} (s : Stage A) → Comes s (Err OutOfMemory)
out_of_memory s = record { so = tt }

pub is_done : {A : Type 0} (a : A) → Comes (done a) (Ok a)
is_done a = record { so = settles_once (once_done a) (Ok a) refl }

pub once_test : {A : Type 0} (Fails : Type 0) (f : Refusal) (a : A) → IsOnce (test Fails f a)
once_test {A} Fails f a = record { same = same } where
  same : (q r : Result A Refusal) → Out (test Fails f a) q → Out (test Fails f a) r → q ≡ r
  same (Ok b) (Ok c) one other = let e : b ≡ c = one.1 ∙ sym other.1 in ap Ok e
  same (Ok b) (Err g) one other = absurd (one.0 other.0)
  same (Err g) (Ok b) one other = absurd (other.0 one.0)
  same (Err g) (Err h) one other = let e : g ≡ h = one.1 ∙ sym other.1 in ap Err e

pub fails : {A : Type 0} (Fails : Type 0) (f : Refusal) (a : A) → Fails → Comes (test Fails f a) (Err (Refused f))
fails Fails f a so = record { so = settles_once (once_test Fails f a) (Err f) (so, refl) }

pub passes : {A : Type 0} (Fails : Type 0) (f : Refusal) (a : A) → (Fails → ⊥) → Comes (test Fails f a) (Ok a)
passes Fails f a not = record { so = settles_once (once_test Fails f a) (Ok a) (not, refl) }

-- a piece that stops, behind a `?`
pub stop_by : {A B : Type 0} {s : Stage A} (t : A → Stage B) (r : Result B Halt) (h : Halt) → IsErrAnd r (λ e. e ≡ h) → Comes s (Err h) → Comes (s >>= t) r
stop_by t (Ok b) h is first = absurd is
stop_by t (Err g) h is first = rw is (stop t h first)

pub by_residual : {A : Type 0} {s : Stage A} (r : Result A Halt) (h : Halt) → IsErrAnd r (λ e. e ≡ h) → Comes s (Err h) → Comes s r
by_residual (Ok b) h is comes = absurd is
by_residual (Err g) h is comes = rw is comes

-- from clauses that say what came, and that nothing else does
pub gives_only : {A : Type 0} {s : Stage A} (a : A) → s.gives a → ((b : A) → s.gives b → b ≡ a) → ((f : Refusal) → s.refuses f → ⊥) → Comes s (Ok a)
gives_only {A} {s} a gives only none = record { so = record { out = gives; only = one } } where
  one : (q : Result A Refusal) → Out s q → q ≡ Ok a
  one (Ok b) out = ap Ok (only b out)
  one (Err f) out = absurd (none f out)

pub refuses_only : {A : Type 0} {s : Stage A} (f : Refusal) → s.refuses f → ((g : Refusal) → s.refuses g → g ≡ f) → ((a : A) → s.gives a → ⊥) → Comes s (Err (Refused f))
refuses_only {A} {s} f refuses only none = record { so = record { out = refuses; only = one } } where
  one : (q : Result A Refusal) → Out s q → q ≡ Err f
  one (Ok a) out = absurd (none a out)
  one (Err g) out = ap Err (only g out)

-- the value of two stages, and where it comes from
pub gives_both : {A B : Type 0} (s : Stage A) (t : A → Stage B) (b : B) → (s >>= t).gives b → (a : A) × s.gives a × (t a).gives b
unfolding ◌>>=◌
gives_both s t b gives = gives

pub both_give : {A B : Type 0} (s : Stage A) (t : A → Stage B) (a : A) (b : B) → s.gives a → (t a).gives b → (s >>= t).gives b
unfolding ◌>>=◌
both_give s t a b first then = (a, first, then)

-- loops over items
module _ {A : Type 0} (whole : Stage (List A)) where
  pub begins : Leaves whole whole []
  begins = record { to = to } where
    to : (r : Result (List A) Halt) → Comes whole r → Comes whole (behind_front [] r)
    to (Ok back) comes = comes
    to (Err h) comes = comes

  pub goes_on : (first : Stage A) (others : Stage (List A)) (front : List A) (a : A) → Leaves whole (before first others) front → Comes first (Ok a) → Leaves whole others (front ++ a ∷ [])
  goes_on first others front a leaves comes = record { to = to } where
    to : (r : Result (List A) Halt) → Comes others r → Comes whole (behind_front (front ++ a ∷ []) r)
    to (Ok back) rest =
        let both : Comes (before first others) (Ok (a ∷ back)) = next _ (Ok (a ∷ back)) comes (next _ (Ok (a ∷ back)) rest (is_done (a ∷ back))) in
        let e : front ++ (a ∷ back) ≡ (front ++ a ∷ []) ++ back = sym (append_assoc front (a ∷ []) back) in
        subst (λ (all : List A). Comes whole (Ok all)) e (leaves.to (Ok (a ∷ back)) both)
    to (Err h) rest = leaves.to (Err h) (next _ (Err h) comes (stop _ h rest))

  pub stops : (first : Stage A) (others : Stage (List A)) (front : List A) (h : Halt) → Leaves whole (before first others) front → Comes first (Err h) → Comes whole (Err h)
  stops first others front h leaves comes = leaves.to (Err h) (stop _ h comes)

  pub finishes : (front : List A) → Leaves whole (done []) front → Comes whole (Ok front)
  finishes front leaves = subst (λ (all : List A). Comes whole (Ok all)) (append-nil front) (leaves.to (Ok []) (is_done []))

pub drop_at : {X : Type 0} (xs : List X) (i : ℕ) (x : X) → i < length xs → x ≡ get_or xs i x → drop i xs ≡ x ∷ drop (i + 1) xs
drop_at {X} xs i x below is = rw add-one (drop-cons xs i x below ∙ ap (λ (y : X). y ∷ drop (suc i) xs) (sym is))

module _ {X A : Type 0} (stage : X → Stage A) (xs : List X) (i : ℕ) (front : List A) (leaves : Leaves (every stage xs) (every stage (drop i xs)) front) where
  module _ (x : X) (below : i < length xs) (is : x ≡ get_or xs i x) where
    at_item : Leaves (every stage xs) (before (stage x) (every stage (drop (i + 1) xs))) front
    at_item =
        let e : drop i xs ≡ x ∷ drop (i + 1) xs = drop_at xs i x below is in
        subst (λ (ys : List X). Leaves (every stage xs) (every stage ys) front) e leaves

    pub every_more : (a : A) → Comes (stage x) (Ok a) → Leaves (every stage xs) (every stage (drop (i + 1) xs)) (front ++ a ∷ [])
    every_more a comes = goes_on _ _ _ front a at_item comes

    pub every_stops : (h : Halt) → Comes (stage x) (Err h) → Comes (every stage xs) (Err h)
    every_stops h comes = stops _ _ _ front h at_item comes

  pub every_ends : length xs ≤ i → Comes (every stage xs) (Ok front)
  every_ends past =
      let e : drop i xs ≡ [] = drop_all i xs past in
      finishes _ front (subst (λ (ys : List X). Leaves (every stage xs) (every stage ys) front) e leaves)

-- what is so of each refusal, of two stages and of a stage for each item
pub refuses_both : {A B : Type 0} (P : Refusal → Type 0) {s : Stage A} (t : A → Stage B) → ((f : Refusal) → s.refuses f → P f) → ((a : A) → s.gives a → (f : Refusal) → (t a).refuses f → P f) → (f : Refusal) → (s >>= t).refuses f → P f
unfolding ◌>>=◌
refuses_both P t first next f refuses = elim refuses [ inl early ↦ first f early | inr late ↦ next late.0 late.1 f late.2 ]

pub refuses_every : {X A : Type 0} (P : Refusal → Type 0) (stage : X → Stage A) (xs : List X) → ((x : X) → Contains xs x → (f : Refusal) → (stage x).refuses f → P f) → (f : Refusal) → (every stage xs).refuses f → P f
refuses_every P stage [] each = λ f refuses. absurd refuses
refuses_every P stage (x ∷ xs) each =
    refuses_both P _ (each x (Contains-append_left (x ∷ []) xs x (0, omega arith, refl)))
    (λ a gives. refuses_both P _ (refuses_every P stage xs (λ y has. each y (Contains-append_right (x ∷ []) xs y has))) (λ rest given f refuses. absurd refuses))
