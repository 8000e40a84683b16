-- A set of signatures that is asked without memory. The public contracts don't cite this.
use Rattle.std.specs.Prelude.{◌≡◌, ℕ, List, [], ◌∷◌, length, Option, Some, None}
use Rattle.std.specs.Borrow.{Bor}
use Rattle.clean_base.specs.Lists.{At, IsDistinct}
use Rattle.field_table.specs.declared.key.Key.{Key}
use Rattle.jimple_tree.specs.declared.tree.FieldSig.{FieldSig}

-- the key has the places of the signature's names among these
pub record IsKey (names : List (List ℕ)) (key : Key) (sig : FieldSig) : Type 0 where
  pub class : At names key.class sig.class
  pub base : At names key.base sig.ty.base
  pub dims : key.dims ≡ sig.ty.dims
  pub name : At names key.name sig.name

-- the key of each signature, in order
pub record AreSigs (names : List (List ℕ)) (keys : List Key) (sigs : List FieldSig) : Type 0 where
  pub distinct : IsDistinct names
  pub count : length keys ≡ length sigs
  pub each : (i : ℕ) (key : Key) (sig : FieldSig) → At keys i key → At sigs i sig → IsKey names key sig

-- the signature, where there is one
abbrev pub sigs_of : Option (Bor FieldSig) → List FieldSig
sigs_of None = []
sigs_of (Some sig) = sig.now ∷ []
