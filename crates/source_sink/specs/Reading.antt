-- How a signature is read from the front of a text: what is read, and what is left. The cursor's functions cite this;
-- public contracts cite `Signature` alone.
use Rattle.std.specs.Prelude.{◌≡◌, ◌==◌, ℕ, zero, suc, Bool, false, List, [], ◌∷◌, ◌++◌, length, take, drop, codes, nat_eq, Option, Some, None, Result, Ok, Err, if◌then◌else◌}
use Rattle.std.specs.List.{prefix_len, starts_with}
use mathlib.Core.Bool.{◌&&◌}
use Rattle.jimple_tree.specs.declared.tree.JType.{JType}
use Rattle.jimple_tree.specs.declared.tree.Sig.{Sig}
use Rattle.source_sink.specs.declared.cursor.Miss.{Miss}
use Rattle.source_sink.specs.declared.cursor.Miss.TheVariants.{Other, Memory}
use Rattle.source_sink.specs.Signature.{is_name_byte}

abbrev pub Read : Type 0 → Type 0
Read X = Option (X × List ℕ)

infixl 10 ◌>>=◌
abbrev pub ◌>>=◌ : {X Y : Type 0} → Read X → (X × List ℕ → Read Y) → Read Y
(Some x) >>= f = f x
None >>= f = None

abbrev pub sees : ℕ → List ℕ → Bool
sees b [] = false
sees b (c ∷ cs) = c == b

abbrev pub read_byte : ℕ → List ℕ → Read (Unit {0})
read_byte b [] = None
read_byte b (c ∷ cs) = if c == b then Some (tt, cs) else None

abbrev pub name_len : List ℕ → ℕ
name_len text = if starts_with nat_eq text (codes "<init>") then 6 else (if starts_with nat_eq text (codes "<clinit>") then 8 else prefix_len is_name_byte text)

abbrev pub read_name : List ℕ → Read (List ℕ)
read_name text = if name_len text == 0 then None else Some (take (name_len text) text, drop (name_len text) text)

abbrev pub is_space : ℕ → Bool
is_space c = c == 32

abbrev pub without_spaces : List ℕ → List ℕ
without_spaces text = drop (prefix_len is_space text) text

abbrev pub read_spaces : List ℕ → Read (Unit {0})
read_spaces text = if prefix_len is_space text == 0 then None else Some (tt, without_spaces text)

abbrev pub pairs : List ℕ → ℕ
pairs [] = 0
pairs (a ∷ []) = 0
pairs (a ∷ b ∷ cs) = if a == 91 && b == 93 then suc (pairs cs) else 0

abbrev pub without_pairs : List ℕ → List ℕ
without_pairs [] = []
without_pairs (a ∷ []) = a ∷ []
without_pairs (a ∷ b ∷ cs) = if a == 91 && b == 93 then without_pairs cs else a ∷ b ∷ cs

abbrev pub read_type : List ℕ → Read JType
read_type text = read_name text >>= λ n. Some (record { base = n.0; dims = pairs n.1 }, without_pairs n.1)

abbrev pub read_later_type : List ℕ → Read JType
read_later_type text = read_byte 44 text >>= λ c. read_type (without_spaces c.1)

abbrev pub read_later : ℕ → List ℕ → Read (List JType)
read_later zero text = Some ([], text)
read_later (suc n) text = if sees 44 text then (read_later_type text >>= λ t. read_later n t.1 >>= λ ts. Some (t.0 ∷ ts.0, ts.1)) else Some ([], text)

abbrev pub read_params : List ℕ → Read (List JType)
read_params text = if sees 41 text then Some ([], text) else (read_type text >>= λ t. read_later (length t.1) t.1 >>= λ ts. Some (t.0 ∷ ts.0, ts.1))

unfoldable pub read_sig : List ℕ → Read Sig
read_sig text = read_byte 60 text >>= λ o. read_name o.1 >>= λ class. read_byte 58 class.1 >>= λ c. read_spaces c.1 >>= λ s. read_type s.1
    >>= λ result. read_spaces result.1 >>= λ s. read_name s.1 >>= λ name. read_byte 40 name.1 >>= λ p. read_params p.1 >>= λ params. read_byte 41 params.1
    >>= λ c. read_byte 62 c.1 >>= λ end. Some (record { class = class.0; result = result.0; name = name.0; params = params.0 }, end.1)

-- what a miss says of what should be read
abbrev pub Misses : {X : Type 0} → Miss → Read X → Type 0
Misses Other read = read ≡ None
Misses Memory read = Unit {0}

-- what a call reads, and what it leaves
abbrev pub Gives : {X : Type 0} → Result X Miss → List ℕ → Read X → Type 0
Gives (Ok x) left read = read ≡ Some (x, left)
Gives (Err e) left read = Misses e read

-- a list grows by what is read
abbrev pub GivesMore : {X : Type 0} → Result (Unit {0}) Miss → List X → List X → List ℕ → Read (List X) → Type 0
GivesMore {X} (Ok u) old new left read = (xs : List X) × (read ≡ Some (xs, left)) × (new ≡ old ++ xs)
GivesMore (Err e) old new left read = Misses e read
