-- Grammars as typed data: what spells a form, with its tree, and what begins it.
use Rattle.std.specs.Prelude.{◌≡◌, ◌⊎◌, ℕ, zero, suc, List, [], ◌∷◌, ◌++◌, true}
use Rattle.jimple_grammar.specs.declared.lexeme.Lexeme.{Lexeme}
use Rattle.jimple_words.specs.Kind.{Kinds, has}

-- What may stand in front of one more piece: the kinds of the first tokens, in each of several cases.
abbrev pub Look : Type 0
Look = List (List Kinds)

-- A form whose spellings have trees of a type.
pub data Grammar : Type 0 → Type 1 where
  -- no token
  nothing : {A : Type 0} → A → Grammar A
  -- one token of these kinds
  token : Kinds → Grammar Lexeme
  -- one token that is refused for the reason of that number, and so no spelling
  refused : {A : Type 0} → ℕ → Kinds → Grammar A
  both : {A B C : Type 0} → (A → B → C) → Grammar A → Grammar B → Grammar C
  either : {A : Type 0} → Grammar A → Grammar A → Grammar A
  -- any number of pieces, each by what the pieces before it came to, and then an end. What tells a piece from the end matters to reading alone.
  many : {S A B C : Type 0} → (List A → B → C) → Look → (S → Grammar A) → (S → A → S) → S → Grammar B → Grammar C
  -- a form, and then one that the first one's tree decides
  given : {A B C : Type 0} → (A → B → C) → Grammar A → (A → Grammar B) → Grammar C

-- a spelling of the first part, and then one of the second
abbrev pub Then : {A B C : Type 0} → (List Lexeme → A → Type 0) → (A → List Lexeme → B → Type 0) → (A → B → C) → List Lexeme → C → Type 0
Then {A} {B} S T f ts v = (x : A) × (y : B) × (front : List Lexeme) × (rest : List Lexeme) × (ts ≡ front ++ rest) × S front x × T x rest y × (v ≡ f x y)

-- tokens that begin the first part, or a spelling of it and tokens that begin the second
abbrev pub ThenBegins : {A : Type 0} → (List Lexeme → A → Type 0) → (List Lexeme → Type 0) → (A → List Lexeme → Type 0) → List Lexeme → Type 0
ThenBegins {A} S P Q ts = P ts ⊎ ((x : A) × (front : List Lexeme) × (rest : List Lexeme) × (ts ≡ front ++ rest) × S front x × Q x rest)

-- any number of pieces, and then the end
pub data ManySpells {S A B : Type 0} (P : S → List Lexeme → A → Type 0) (step : S → A → S) (T : List Lexeme → B → Type 0) : S → List Lexeme → List A × B → Type 0 where
  last : {s : S} {ts : List Lexeme} {v : List A × B} (y : B) → T ts y → v ≡ ([], y) → ManySpells P step T s ts v
  more : {s : S} {ts : List Lexeme} {v : List A × B} (x : A) (z : List A × B) (front rest : List Lexeme) → ts ≡ front ++ rest → P s front x → ManySpells P step T (step s x) rest z → v ≡ (x ∷ z.0, z.1) → ManySpells P step T s ts v

pub data ManyBegins {S A : Type 0} (P : S → List Lexeme → A → Type 0) (step : S → A → S) (Q : S → List Lexeme → Type 0) (R : List Lexeme → Type 0) : S → List Lexeme → Type 0 where
  piece : {s : S} {ts : List Lexeme} → Q s ts → ManyBegins P step Q R s ts
  end : {s : S} {ts : List Lexeme} → R ts → ManyBegins P step Q R s ts
  later : {s : S} {ts : List Lexeme} (x : A) (front rest : List Lexeme) → ts ≡ front ++ rest → P s front x → ManyBegins P step Q R (step s x) rest → ManyBegins P step Q R s ts

-- The tokens spell the form, and this is their tree.
abbrev pub Spells : {A : Type 0} → Grammar A → List Lexeme → A → Type 0
Spells (nothing x) ts v = (ts ≡ []) × (v ≡ x)
Spells (token ks) ts v = (ts ≡ v ∷ []) × (has ks v.kind ≡ true)
Spells (refused j ks) ts v = ⊥
Spells (both f a b) ts v = Then (Spells a) (λ x. Spells b) f ts v
Spells (either a b) ts v = Spells a ts v ⊎ Spells b ts v
Spells (many {S} {A} {B} f look a step s b) ts v = (z : List A × B) × ManySpells (λ s. Spells (a s)) step (Spells b) s ts z × (v ≡ f z.0 z.1)
Spells (given f a b) ts v = Then (Spells a) (λ x. Spells (b x)) f ts v

-- The tokens begin the form. With a number above 0 the tokens that are refused for the reason before it count too.
abbrev pub BeginsBy : ℕ → {A : Type 0} → Grammar A → List Lexeme → Type 0
BeginsBy k (nothing x) ts = ts ≡ []
BeginsBy k (token ks) ts = (ts ≡ []) ⊎ ((t : Lexeme) × (ts ≡ t ∷ []) × (has ks t.kind ≡ true))
BeginsBy k (refused j ks) ts = (ts ≡ []) ⊎ ((t : Lexeme) × (ts ≡ t ∷ []) × (has ks t.kind ≡ true) × (k ≡ suc j))
BeginsBy k (both f a b) ts = ThenBegins (Spells a) (BeginsBy k a) (λ x. BeginsBy k b) ts
BeginsBy k (either a b) ts = BeginsBy k a ts ⊎ BeginsBy k b ts
BeginsBy k (many f look a step s b) ts = ManyBegins (λ s. Spells (a s)) step (λ s. BeginsBy k (a s)) (BeginsBy k b) s ts
BeginsBy k (given f a b) ts = ThenBegins (Spells a) (BeginsBy k a) (λ x. BeginsBy k (b x)) ts

-- The tokens begin the form: each part whole and in order, and then tokens that begin the next part.
abbrev pub Begins : {A : Type 0} → Grammar A → List Lexeme → Type 0
Begins g ts = BeginsBy 0 g ts

-- any number of one form, and then an end
abbrev pub plain : {A B C : Type 0} → (List A → B → C) → Look → Grammar A → Grammar B → Grammar C
plain f look a b = many {S = Unit {0}} f look (λ s. a) (λ s x. s) tt b

-- how forms are put together: the tree of both parts, of the left one alone, of the right one alone
infixl 4 ◌<*>◌
abbrev pub ◌<*>◌ : {A B : Type 0} → Grammar (A → B) → Grammar A → Grammar B
a <*> b = both (λ f x. f x) a b

infixl 4 ◌<*◌
abbrev pub ◌<*◌ : {A B : Type 0} → Grammar A → Grammar B → Grammar A
a <* b = both (λ x y. x) a b

infixl 4 ◌*>◌
abbrev pub ◌*>◌ : {A B : Type 0} → Grammar A → Grammar B → Grammar B
a *> b = both (λ x y. y) a b

-- no token, and no tree of interest
abbrev pub ends : Grammar (Unit {0})
ends = nothing tt

-- so many of a form
abbrev pub times : {A : Type 0} → ℕ → Grammar A → Grammar (List A)
times zero a = nothing []
times (suc n) a = both (λ x xs. x ∷ xs) a (times n a)
