-- Methods by their name. The public contracts don't cite this: it is what calls are looked up by.
use Rattle.std.specs.Prelude.{ℕ, List}
use Rattle.clean_base.specs.Lists.{At}
use Rattle.jimple_tree.specs.Signatures.{HasSignature}
use Rattle.jimple_tree.specs.declared.tree.Class.{Class}
use Rattle.jimple_tree.specs.declared.tree.Method.{Method}
use Rattle.jimple_tree.specs.declared.tree.Sig.{Sig}

-- the name by which a method is found
abbrev pub name_of : Method → List ℕ
name_of m = m.name

-- a method with the signature's name, parameters and result stands at this place of the class
abbrev pub IsMethodAt : Class → Sig → ℕ → Method → Type 0
IsMethodAt c sig place m = At c.methods place m × HasSignature sig m
