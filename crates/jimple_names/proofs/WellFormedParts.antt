-- What it means that no fault is found: of two, of each of a list, and of a list in turn.
use Rattle.std.proofs.Common.{◌≡◌, ℕ, ◌<◌, ◌≤◌, nat_lt, Bool, true, false, cond, List, [], ◌∷◌, ◌++◌, length, map, All, AllPairs, Option, Some, None, is_some, find, filter_map, refl, sym, subst, arith, true≢false, append_assoc, append-nil}
use Rattle.std.specs.List.{AllByRecursion, list_any, position_or_len}
use Rattle.std.specs.Option.{option_map}
use Rattle.std.specs.Str.{bytes_eq}
use Rattle.std.proofs.lemmas.Bool.{ltb-true, or_parts}
use Rattle.std.proofs.lemmas.List.Elements.{All-nil, All-cons, All-head, All-tail, filter_map-append}
use Rattle.std.proofs.lemmas.List.Quantifiers.{all_pairs_push}
use Rattle.jimple_names.specs.declared.scope.Label.{Label}
use Rattle.jimple_names.specs.declared.stop.NameFault.{NameFault}
use Rattle.jimple_names.specs.Faults.{◌or◌, unless, first, in_turn, double}
use Rattle.jimple_names.specs.Scope.{local_at, label_at, or_first}
use Rattle.jimple_grammar.specs.declared.lexeme.Lexeme.{Lexeme}

pub none_some : {A : Type 0} (x : A) → ◌≡◌ {A = Option A} (Some x) None → ⊥
none_some x e = cc

pub or_none : (f g : Option NameFault) → f or g ≡ None → (f ≡ None) × (g ≡ None)
or_none None g e = (refl, e)
or_none (Some x) g e = absurd (none_some x e)

pub unless_none : (holds : Bool) (f : NameFault) → unless holds f ≡ None → holds ≡ true
unless_none true f e = refl
unless_none false f e = absurd (none_some f e)

pub double_none : (again : Bool) (t : Lexeme) → double again t ≡ None → again ≡ false
double_none true t e = absurd (none_some _ e)
double_none false t e = refl

-- what each item without a fault stands for
pub each_none : {A B : Type 0} (f : A → B) (fault : A → Option NameFault) (F : A → Type 0) (P : B → Type 0) → ((x : A) → F x → fault x ≡ None → P (f x)) → (xs : List A) → All F xs → first fault xs ≡ None → All P (map f xs)
each_none f fault F P fits [] h e = All-nil P
each_none f fault F P fits (x ∷ xs) h e =
    let parts = or_none (fault x) (first fault xs) e in
    All-cons P (f x) (map f xs) (fits x (All-head F x xs h) parts.0) (each_none f fault F P fits xs (All-tail F x xs h) parts.1)

-- an item and the others, where the item gives something or nothing
all_given : {A B : Type 0} (g : A → Option B) (P : B → Type 0) (x : A) (xs : List A) → ((y : B) → g x ≡ Some y → P y) → All P (filter_map g xs) → All P (filter_map g (x ∷ xs))
all_given g P x xs p rest = of (g x) refl where
  of : (r : Option _) → g x ≡ r → All P (filter_map g (x ∷ xs))
  of None s = rw s rest
  of (Some y) s = rw s (All-cons P y (filter_map g xs) (p y s) rest)

-- what each item without a fault in its turn gives, where it gives something
pub each_in_turn : {A B : Type 0} (g : A → Option B) (fault : List A → A → Option NameFault) (F : A → Type 0) (P : B → Type 0) → ((before : List A) (x : A) (y : B) → F x → fault before x ≡ None → g x ≡ Some y → P y)
    → (xs before : List A) → All F xs → in_turn fault before xs ≡ None → All P (filter_map g xs)
each_in_turn g fault F P fits [] before h e = All-nil P
each_in_turn g fault F P fits (x ∷ xs) before h e =
    let parts = or_none (fault before x) (in_turn fault (before ++ x ∷ []) xs) e in
    all_given g P x xs (λ y s. fits before x y (All-head F x xs h) parts.0 s) (each_in_turn g fault F P fits xs (before ++ x ∷ []) (All-tail F x xs h) parts.1)

-- of items that are judged by those before them, what no two give has one key
module _ {A Y K : Type 0} (g : A → Option Y) (key : Y → K) (same : A → A → Bool) (tell : (x w : A) (y z : Y) → g x ≡ Some y → g w ≡ Some z → same x w ≡ false → key z ≡ key y → ⊥) where
  none_same : (x : A) (y : Y) → g x ≡ Some y → (before : List A) → list_any (same x) before ≡ false → All (λ z. key z ≡ key y → ⊥) (filter_map g before)
  none_same x y is [] e = All-nil _
  none_same x y is (w ∷ before) e =
      let parts = or_parts (same x w) (list_any (same x) before) e in
      all_given g (λ z. key z ≡ key y → ⊥) w before (λ z s. tell x w y z is s parts.0) (none_same x y is before parts.1)

  one_more : (before : List A) (x : A) → list_any (same x) before ≡ false → AllPairs (λ z y. key z ≡ key y → ⊥) (filter_map g before) → AllPairs (λ z y. key z ≡ key y → ⊥) (filter_map g (before ++ x ∷ []))
  one_more before x e h = subst (AllPairs (λ z y. key z ≡ key y → ⊥)) (sym (filter_map-append g before (x ∷ []))) (of (g x) refl) where
    of : (r : Option Y) → g x ≡ r → AllPairs (λ z y. key z ≡ key y → ⊥) (filter_map g before ++ filter_map g (x ∷ []))
    of None s = rw s (subst (AllPairs (λ z y. key z ≡ key y → ⊥)) (sym (append-nil (filter_map g before))) h)
    of (Some y) s = rw s (all_pairs_push (λ z y. key z ≡ key y → ⊥) (filter_map g before) y h (none_same x y s before e))

  pub distinct_in_turn : (fault : List A → A → Option NameFault) → ((before : List A) (x : A) → fault before x ≡ None → list_any (same x) before ≡ false) → (xs before : List A) → in_turn fault before xs ≡ None
      → AllPairs (λ z y. key z ≡ key y → ⊥) (filter_map g before) → AllPairs (λ z y. key z ≡ key y → ⊥) (filter_map g (before ++ xs))
  distinct_in_turn fault judge [] before e h = subst (λ (zs : List A). AllPairs (λ z y. key z ≡ key y → ⊥) (filter_map g zs)) (sym (append-nil before)) h
  distinct_in_turn fault judge (x ∷ xs) before e h =
      let parts = or_none (fault before x) (in_turn fault (before ++ x ∷ []) xs) e in
      subst (λ (zs : List A). AllPairs (λ z y. key z ≡ key y → ⊥) (filter_map g zs)) (append_assoc before (x ∷ []) xs) (distinct_in_turn fault judge xs (before ++ x ∷ []) parts.1 (one_more before x (judge before x parts.0) h))

-- the place of a local that is found is one of the list
pub found_below : (names : List (List ℕ)) (name : List ℕ) → is_some (local_at names name) ≡ true → or_first (local_at names name) < length names
found_below names name e = of (position_or_len (λ n. bytes_eq n name) names) (nat_lt (position_or_len (λ n. bytes_eq n name) names) (length names)) refl e where
  of : (at : ℕ) (b : Bool) → nat_lt at (length names) ≡ b → is_some (cond b (Some at) None) ≡ true → or_first (cond b (Some at) None) < length names
  of at true s i = ltb-true at (length names) s
  of at false s i = absurd (true≢false (sym i))

-- the place of a label that is found is at most the number of statements
pub label_within : (count : ℕ) (labels : List Label) (name : List ℕ) → AllByRecursion (λ (l : Label). l.place ≤ count) labels → or_first (label_at labels name) ≤ count
label_within count [] name h = omega arith
label_within count (l ∷ labels) name h = of (bytes_eq l.name name) h.0 (label_within count labels name h.1) where
  of : (b : Bool) → l.place ≤ count → or_first (label_at labels name) ≤ count → or_first (option_map (λ (l : Label). l.place) (cond b (Some l) (find (λ (l : Label). bytes_eq l.name name) labels))) ≤ count
  of true here rest = here
  of false here rest = rest
