-- The signatures of a class's methods.
use Rattle.std.specs.Prelude.{◌≡◌}
use Rattle.jimple_tree.specs.declared.tree.Class.{Class}
use Rattle.jimple_tree.specs.declared.tree.Method.{Method}
use Rattle.jimple_tree.specs.declared.tree.Sig.{Sig}

-- the signature of a method of the class
abbrev pub sig_of : Class → Method → Sig
sig_of c m = record { class = c.name; result = m.result; name = m.name; params = m.params }

-- the method has the signature's name, parameters and result, in whatever class it stands
abbrev pub HasSignature : Sig → Method → Type 0
HasSignature sig m = sig ≡ record { class = sig.class; result = m.result; name = m.name; params = m.params }
