-- The text of a method signature (docs/FORMATS.md, "Signatures and lists").
use Rattle.std.specs.Prelude.{◌≡◌, ◌⊎◌, ◌<◌, ◌==◌, ℕ, Bool, true, not, List, [], ◌∷◌, ◌++◌, length, drop, slice_index, codes, replicate}
use Rattle.std.specs.List.{AllByRecursion, concat, list_all}
use mathlib.Core.Bool.{◌||◌}
use Rattle.jimple_tree.specs.Printed.{type_text}
use Rattle.jimple_tree.specs.declared.tree.JType.{JType}
use Rattle.jimple_tree.specs.declared.tree.Sig.{Sig}

-- white space: a tab, a line feed, a carriage return or a space
abbrev pub is_white_space : ℕ → Bool
is_white_space c = c == 9 || c == 10 || c == 13 || c == 32

-- one of ( ) , : < > [ ]
abbrev pub is_sign : ℕ → Bool
is_sign c = c == 40 || c == 41 || c == 44 || c == 58 || c == 60 || c == 62 || c == 91 || c == 93

-- a byte that may stand in a name
abbrev pub is_name_byte : ℕ → Bool
is_name_byte c = not (is_white_space c || is_sign c)

-- bytes of names, one or more
pub record IsPlainName (n : List ℕ) : Type 0 where
  pub some : 0 < length n
  pub each : list_all is_name_byte n ≡ true

-- a name is plain, or that of a constructor or of a class initialiser
abbrev pub IsName : List ℕ → Type 0
IsName n = (n ≡ codes "<init>") ⊎ ((n ≡ codes "<clinit>") ⊎ IsPlainName n)

-- so many spaces
abbrev pub spaces : ℕ → List ℕ
spaces n = replicate n 32

-- parameters behind the first, each with its comma and the spaces behind that; where no number is given, no space
abbrev pub later_text : List JType → List ℕ → List ℕ
later_text [] gaps = []
later_text (t ∷ ts) gaps = concat (codes "," ∷ spaces (slice_index gaps 0) ∷ type_text t ∷ later_text ts (drop 1 gaps) ∷ [])

abbrev pub params_text : List JType → List ℕ → List ℕ
params_text [] gaps = []
params_text (t ∷ ts) gaps = type_text t ++ later_text ts gaps

-- a signature, with so many spaces behind the colon, behind the result type and behind each comma
abbrev pub sig_text : ℕ → ℕ → List ℕ → Sig → List ℕ
sig_text colon result commas s = concat
    (codes "<" ∷ s.class ∷ codes ":" ∷ spaces colon ∷ type_text s.result ∷ spaces result
    ∷ s.name ∷ codes "(" ∷ params_text s.params commas ∷ codes ")>" ∷ [])

-- what stands for names in a signature is names
pub record HasNames (s : Sig) : Type 0 where
  pub class : IsName s.class
  pub result : IsName s.result.base
  pub name : IsName s.name
  pub params : AllByRecursion (λ (t : JType). IsName t.base) s.params

-- the text is this signature, with a space or more behind the colon and behind the result type
pub record Spells (s : Sig) (text : List ℕ) : Type 0 where
  pub colon : ℕ
  pub result : ℕ
  pub commas : List ℕ
  pub names : HasNames s
  pub colon_some : 0 < colon
  pub result_some : 0 < result
  pub is : text ≡ sig_text colon result commas s
