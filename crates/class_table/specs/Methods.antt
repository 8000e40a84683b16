-- The methods of classes with a body, by number and by signature.
use Rattle.std.specs.Prelude.{◌≡◌, List, map, flat_map}
use Rattle.clean_base.specs.Lists.{At}
use Rattle.clean_base.specs.declared.ids.MethodId.{MethodId}
use Rattle.jimple_tree.specs.Bodies.{bodied, all_stmts}
use Rattle.jimple_tree.specs.Signatures.{sig_of}
use Rattle.jimple_tree.specs.declared.tree.Class.{Class}
use Rattle.jimple_tree.specs.declared.tree.Method.{Method}
use Rattle.jimple_tree.specs.declared.tree.Sig.{Sig}
use Rattle.jimple_tree.specs.declared.tree.Stmt.{Stmt}

-- the methods with a body, each with its class, in the order of the text
abbrev pub methods_of : Class → List (Class × Method)
methods_of c = map (λ (m : Method). (c, m)) (bodied c.methods)

abbrev pub all_methods : List Class → List (Class × Method)
all_methods cs = flat_map methods_of cs

-- the statements of all methods
abbrev pub stmts_in : List Class → List Stmt
stmts_in cs = flat_map (λ (c : Class). all_stmts c.methods) cs

-- the method of the class has this number
abbrev pub IsNumber : List Class → MethodId → Class → Method → Type 0
IsNumber cs n c m = At (all_methods cs) n.0 (c, m)

-- a method with a body is declared under this signature, and has this number
abbrev pub IsDeclared : List Class → Sig → MethodId → Type 0
IsDeclared cs sig n = (c : Class) × (m : Method) × IsNumber cs n c m × (sig ≡ sig_of c m)
