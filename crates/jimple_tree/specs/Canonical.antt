-- The canonical text of a class.
-- The writer stands above, statements and names below.
use Rattle.std.specs.Prelude.{ℕ, Bool, true, false, List, [], ◌∷◌, ◌++◌, codes, Option, Some, None}
use Rattle.std.specs.List.{flat_map}
use Rattle.jimple_tree.specs.Names.{joined, name_text}
use Rattle.jimple_tree.specs.Operands.{type_text, types_text}
use Rattle.jimple_tree.specs.Statements.{body_text}
use Rattle.jimple_tree.specs.declared.tree.Body.{Body}
use Rattle.jimple_tree.specs.declared.tree.Class.{Class}
use Rattle.jimple_tree.specs.declared.tree.Field.{Field}
use Rattle.jimple_tree.specs.declared.tree.JType.{JType}
use Rattle.jimple_tree.specs.declared.tree.Method.{Method}

-- modifiers are written as they are
abbrev pub modifiers_text : List (List ℕ) → List ℕ
modifiers_text modifiers = flat_map (λ m. m ++ codes " ") modifiers

-- a word of a heading with its list of names, where there is a name
abbrev pub names_clause : List ℕ → List (List ℕ) → List ℕ
names_clause word [] = []
names_clause word (name ∷ names) = word ++ joined (codes ", ") name_text (name ∷ names)

abbrev pub class_word : Bool → List ℕ
class_word true = codes "interface "
class_word false = codes "class "

unfoldable pub class_heading : Class → List ℕ
class_heading c =
    modifiers_text c.modifiers ++ class_word c.is_interface ++ name_text c.name ++ names_clause (codes " extends ") c.extends
    ++ names_clause (codes " implements ") c.implements

-- what a field and a method begin with
unfoldable pub member_head : List (List ℕ) → JType → List ℕ → List ℕ
member_head modifiers type name = codes "    " ++ modifiers_text modifiers ++ type_text type ++ codes " " ++ name_text name

abbrev pub field_line : Field → List ℕ
field_line f = member_head f.modifiers f.ty f.name ++ codes ";\n"

abbrev pub method_heading : Method → List ℕ
method_heading m =
    member_head m.modifiers m.result m.name ++ codes "(" ++ types_text m.params ++ codes ")"
    ++ names_clause (codes " throws ") m.throws

-- what stands behind a method's heading
abbrev pub method_end : Option Body → List ℕ
method_end None = codes ";\n"
method_end (Some body) = codes "\n    {\n" ++ body_text body ++ codes "    }\n"

abbrev pub method_text : Method → List ℕ
method_text m = method_heading m ++ method_end m.body

abbrev pub canonical : Class → List ℕ
canonical c =
    class_heading c ++ codes "\n{\n" ++ flat_map field_line c.fields ++ flat_map method_text c.methods ++ codes "}\n"
