-- Reading a form from the front of a list of tokens. The parser is proved against it, and it against what spells and begins a form.
use Rattle.std.specs.Prelude.{ℕ, zero, suc, Bool, true, false, List, [], ◌∷◌, ◌++◌, length, Result, Ok, Err, if◌then◌else◌}
use mathlib.Core.Bool.{◌&&◌, ◌||◌}
use Rattle.jimple_grammar.specs.declared.lexeme.Lexeme.{Lexeme}
use Rattle.jimple_words.specs.Kind.{Kinds, has}
use Rattle.jimple_grammar.specs.Grammar.{Look, Grammar, nothing, token, refused, both, either, many, given}

-- The tokens in front are of these kinds.
abbrev pub sees : List Kinds → List Lexeme → Bool
sees [] ts = true
sees (ks ∷ kss) [] = false
sees (ks ∷ kss) (t ∷ ts) = has ks t.kind && sees kss ts

abbrev pub sees_one : Look → List Lexeme → Bool
sees_one [] ts = false
sees_one (s ∷ []) ts = sees s ts
sees_one (s ∷ r ∷ ss) ts = sees s ts || sees_one (r ∷ ss) ts

-- The tree and the tokens left, or the tokens left where reading stops, with 0 or the successor of the reason for which the first of them is refused.
abbrev pub Read : Type 0 → Type 0
Read A = Result (A × List Lexeme) (List Lexeme × ℕ)

infixl 10 ◌>>=◌
abbrev pub ◌>>=◌ : {A B : Type 0} → Read A → (A × List Lexeme → Read B) → Read B
(Ok x) >>= f = f x
(Err e) >>= f = Err e

abbrev pub read_token : Kinds → List Lexeme → Read Lexeme
read_token ks [] = Err ([], 0)
read_token ks (t ∷ ts) = if has ks t.kind then Ok (t, ts) else Err (t ∷ ts, 0)

abbrev pub read_refused : {A : Type 0} → ℕ → Kinds → List Lexeme → Read A
read_refused j ks [] = Err ([], 0)
read_refused j ks (t ∷ ts) = if has ks t.kind then Err (t ∷ ts, suc j) else Err (t ∷ ts, 0)

-- No token may spell the form.
abbrev pub may_be_empty : {A : Type 0} → Grammar A → Bool
may_be_empty (nothing x) = true
may_be_empty (token ks) = false
may_be_empty (refused j ks) = false
may_be_empty (both f a b) = may_be_empty a && may_be_empty b
may_be_empty (either a b) = may_be_empty a || may_be_empty b
may_be_empty (many f look a step s b) = may_be_empty b
may_be_empty (given f a b) = may_be_empty a

-- the kinds with which a form begins
abbrev pub first : {A : Type 0} → Grammar A → Kinds
first (nothing x) = []
first (token ks) = ks
first (refused j ks) = ks
first (both f a b) = if may_be_empty a then first a ++ first b else first a
first (either a b) = first a ++ first b
first (many f look a step s b) = first (a s) ++ first b
first (given f a b) = first a

-- pieces as long as the tokens in front tell of one, at most as many as the number, and then the end
abbrev pub repeat : {S A B : Type 0} → ℕ → Look → (S → List Lexeme → Read A) → (S → A → S) → (List Lexeme → Read B) → S → List Lexeme → Read (List A × B)
repeat zero look a step b s ts = b ts >>= λ y. Ok (([], y.0), y.1)
repeat (suc n) look a step b s ts = if sees_one look ts then (a s ts >>= λ x. repeat n look a step b (step s x.0) x.1 >>= λ y. Ok ((x.0 ∷ y.0.0, y.0.1), y.1)) else (b ts >>= λ y. Ok (([], y.0), y.1))

abbrev pub reading : {A : Type 0} → Grammar A → List Lexeme → Read A
reading (nothing x) ts = Ok (x, ts)
reading (token ks) ts = read_token ks ts
reading (refused j ks) ts = read_refused j ks ts
reading (both f a b) ts = reading a ts >>= λ x. reading b x.1 >>= λ y. Ok (f x.0 y.0, y.1)
reading (either a b) ts = if sees (first a ∷ []) ts then reading a ts else reading b ts
reading (many f look a step s b) ts = repeat (length ts) look (λ s. reading (a s)) step (reading b) s ts >>= λ z. Ok (f z.0.0 z.0.1, z.1)
reading (given f a b) ts = reading a ts >>= λ x. reading (b x.0) x.1 >>= λ y. Ok (f x.0 y.0, y.1)
