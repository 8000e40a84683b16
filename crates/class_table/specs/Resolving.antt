-- Which method a call of a class and a signature comes to (docs/FLOW-RULES.md, "Resolution").
use Rattle.std.specs.Prelude.{◌≡◌, ◌⊎◌, ℕ, true, List, [], ◌∷◌, ◌++◌, flat_map, codes, is_some, Contains, Some, if◌then◌else◌}
use Rattle.clean_base.specs.declared.ids.MethodId.{MethodId}
use Rattle.jimple_tree.specs.Signatures.{sig_of}
use Rattle.jimple_tree.specs.declared.tree.Class.{Class}
use Rattle.jimple_tree.specs.declared.tree.Method.{Method}
use Rattle.jimple_tree.specs.declared.tree.Sig.{Sig}
use Rattle.reach_rows.specs.Walks.{Walk}
use Rattle.class_table.specs.Hierarchy.{given, names_in}
use Rattle.class_table.specs.Methods.{IsNumber}

-- the name after `extends` of a class that is no interface
abbrev pub superclass : Class → List (List ℕ)
superclass c = if c.is_interface then [] else c.extends

-- the names after `implements`; of an interface those after `extends` come first
abbrev pub interfaces : Class → List (List ℕ)
interfaces c = if c.is_interface then c.extends ++ c.implements else c.implements

-- where a method is looked for: in the class and its superclasses upwards, and then in the interfaces of each of these,
-- each followed at once by its own
pub record IsSearch (cs : List Class) (name : List ℕ) (places : List (List ℕ)) : Type 0 where
  pub chain : List (List ℕ)
  pub met : List (List ℕ)
  pub up : Walk (names_in superclass cs) (name ∷ []) chain
  pub across : Walk (names_in interfaces cs) (flat_map (names_in interfaces cs) chain) met
  pub are : places ≡ chain ++ met

-- a method that has a body, or isn't abstract
abbrev pub MayBeCalled : Method → Type 0
MayBeCalled m = (is_some m.body ≡ true) ⊎ (Contains m.modifiers (codes "abstract") → ⊥)

-- the class that is given under the name has the method, under the signature's name, parameters and result, and it may be
-- called
pub record HasCallable (cs : List Class) (sig : Sig) (name : List ℕ) (c : Class) (m : Method) : Type 0 where
  pub class : given cs name ≡ Some c
  pub member : Contains c.methods m
  pub named : sig_of c m ≡ record sig { class = c.name }
  pub callable : MayBeCalled m

-- the first one where it is looked for
pub record Finds (cs : List Class) (name : List ℕ) (sig : Sig) (c : Class) (m : Method) : Type 0 where
  pub before : List (List ℕ)
  pub place : List ℕ
  pub behind : List (List ℕ)
  pub search : IsSearch cs name (before ++ place ∷ behind)
  pub none : (other : List ℕ) → Contains before other → (k : Class) (n : Method) → HasCallable cs sig other k n → ⊥
  pub here : HasCallable cs sig place c m

-- it has a body, and this number
pub record Resolves (cs : List Class) (name : List ℕ) (sig : Sig) (n : MethodId) : Type 0 where
  pub class : Class
  pub method : Method
  pub found : Finds cs name sig class method
  pub number : IsNumber cs n class method
