-- What a reference means: the field of the first class upwards that declares it (docs/FLOW-RULES.md, "Fields").
use Rattle.std.specs.Prelude.{ℕ, ◌+◌, zero, suc, Bool, List, [], ◌∷◌, ◌++◌, flat_map, length, Contains, Option, Some, None}
use Rattle.std.specs.List.{find, list_any}
use Rattle.class_table.specs.Hierarchy.{names_in}
use Rattle.class_table.specs.Resolving.{superclass}
use Rattle.field_table.specs.Fields.{declared_sigs, in_class, same_sig, Declares}
use Rattle.jimple_tree.specs.declared.tree.Class.{Class}
use Rattle.jimple_tree.specs.declared.tree.FieldSig.{FieldSig}
use Rattle.reach_rows.specs.Walks.{Walk}

-- the class of this name and its superclasses upwards; the first so many of them
unfoldable pub upwards : List Class → ℕ → List ℕ → List (List ℕ)
upwards cs zero class = []
upwards cs (suc n) class = class ∷ flat_map (upwards cs n) (names_in superclass cs class)

-- all of them: where no class stands above itself none comes twice, and all but the last are given
unfoldable pub chain : List Class → List ℕ → List (List ℕ)
chain cs class = upwards cs (length cs + 1) class

-- whether a class of this name declares a field of the signature's name and type
abbrev pub declares : List Class → FieldSig → List ℕ → Bool
declares cs sig class = list_any (same_sig (in_class sig class)) (declared_sigs cs)

-- the first of the chain that does
abbrev pub declarer : List Class → FieldSig → Option (List ℕ)
declarer cs sig = find (declares cs sig) (chain cs sig.class)

abbrev pub in_declarer : FieldSig → Option (List ℕ) → FieldSig
in_declarer sig None = sig
in_declarer sig (Some class) = in_class sig class

-- the field that a reference means
abbrev pub meaning : List Class → FieldSig → FieldSig
meaning cs sig = in_declarer sig (declarer cs sig)

-- the same as a relation: of the class and all its superclasses upwards the first that declares the field; or none does
pub data Means (cs : List Class) (sig : FieldSig) : FieldSig → Type 0 where
  first : (before behind : List (List ℕ)) (class : List ℕ) → Walk (names_in superclass cs) (sig.class ∷ []) (before ++ class ∷ behind)
      → ((other : List ℕ) → Contains before other → Declares cs other sig → ⊥) → Declares cs class sig → Means cs sig (in_class sig class)
  nowhere : (all : List (List ℕ)) → Walk (names_in superclass cs) (sig.class ∷ []) all
      → ((other : List ℕ) → Contains all other → Declares cs other sig → ⊥) → Means cs sig sig
