-- The classes of which there may be objects (docs/FLOW-RULES.md, "Classes").
use Rattle.std.specs.Prelude.{◌≡◌, ℕ, false, List, codes, Contains, Some}
use Rattle.jimple_tree.specs.declared.tree.Class.{Class}
use Rattle.class_table.specs.Hierarchy.{given}

-- a class is given under the name that is no interface and isn't abstract
pub record IsConcrete (cs : List Class) (name : List ℕ) : Type 0 where
  pub class : Class
  pub given : given cs name ≡ Some class
  pub no_interface : class.is_interface ≡ false
  pub not_abstract : Contains class.modifiers (codes "abstract") → ⊥
