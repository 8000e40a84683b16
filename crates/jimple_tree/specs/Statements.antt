-- The texts of statements and of the lines of a body.
-- Classes (Canonical) stand above, operands and labels below.
use Rattle.std.specs.Prelude.{ℕ, suc, Bool, true, false, List, [], ◌∷◌, ◌++◌, codes, decimal, Some, None}
use Rattle.std.specs.List.{flat_map}
use Rattle.jimple_tree.specs.Names.{name_text}
use Rattle.jimple_tree.specs.Labels.{label_number, label_text, label_line}
use Rattle.jimple_tree.specs.Operands.{brackets, type_text, field_sig_text, local_text, imm_text, invoke_text}
use Rattle.clean_base.specs.declared.ids.LocalId.{LocalId}
use Rattle.jimple_tree.specs.declared.tree.BinOp.{BinOp}
use Rattle.jimple_tree.specs.declared.tree.BinOp.TheVariants.{Add, Sub, Mul, Div, Rem, And, Or, Xor, Shl, Shr, Ushr, Cmp, Cmpg, Cmpl}
use Rattle.jimple_tree.specs.declared.tree.Body.{Body}
use Rattle.jimple_tree.specs.declared.tree.Case.{Case}
use Rattle.jimple_tree.specs.declared.tree.Catch.{Catch}
use Rattle.jimple_tree.specs.declared.tree.Cond.{Cond}
use Rattle.jimple_tree.specs.declared.tree.Cond.TheVariants.{Eq, Ne, Lt, Le, Gt, Ge}
use Rattle.jimple_tree.specs.declared.tree.FieldSig.{FieldSig}
use Rattle.jimple_tree.specs.declared.tree.Given.{Given}
use Rattle.jimple_tree.specs.declared.tree.Given.TheVariants.{This, Param, Caught}
use Rattle.jimple_tree.specs.declared.tree.Imm.{Imm}
use Rattle.jimple_tree.specs.declared.tree.Local.{Local}
use Rattle.jimple_tree.specs.declared.tree.Place.{Place}
use Rattle.jimple_tree.specs.declared.tree.Place.TheVariants as place
use Rattle.jimple_tree.specs.declared.tree.Rhs.{Rhs}
use Rattle.jimple_tree.specs.declared.tree.Rhs.TheVariants as rhs
use Rattle.jimple_tree.specs.declared.tree.Stmt.{Stmt}
use Rattle.jimple_tree.specs.declared.tree.Stmt.TheVariants as stmt

abbrev pub given_text : Given → List ℕ
given_text (This type) = codes "@this: " ++ type_text type
given_text (Param number type) = codes "@parameter" ++ decimal number ++ codes ": " ++ type_text type
given_text Caught = codes "@caughtexception"

abbrev pub field_text : Body → LocalId → FieldSig → List ℕ
field_text b base sig = local_text b base ++ codes "." ++ field_sig_text sig

-- a length in brackets
abbrev pub length_text : Body → Imm → List ℕ
length_text b len = codes "[" ++ imm_text b len ++ codes "]"

abbrev pub element_text : Body → LocalId → Imm → List ℕ
element_text b base index = local_text b base ++ length_text b index

abbrev pub place_text : Body → Place → List ℕ
place_text b (place.Local x) = local_text b x
place_text b (place.Field base sig) = field_text b base sig
place_text b (place.Static sig) = field_sig_text sig
place_text b (place.Element base index) = element_text b base index

abbrev pub cond_text : Cond → List ℕ
cond_text Eq = codes " == "
cond_text Ne = codes " != "
cond_text Lt = codes " < "
cond_text Le = codes " <= "
cond_text Gt = codes " > "
cond_text Ge = codes " >= "

abbrev pub op_text : BinOp → List ℕ
op_text Add = codes " + "
op_text Sub = codes " - "
op_text Mul = codes " * "
op_text Div = codes " / "
op_text Rem = codes " % "
op_text And = codes " & "
op_text Or = codes " | "
op_text Xor = codes " ^ "
op_text Shl = codes " << "
op_text Shr = codes " >> "
op_text Ushr = codes " >>> "
op_text Cmp = codes " cmp "
op_text Cmpg = codes " cmpg "
op_text Cmpl = codes " cmpl "

abbrev pub rhs_text : Body → Rhs → List ℕ
rhs_text b (rhs.Use value) = imm_text b value
rhs_text b (rhs.Cast type value) = codes "(" ++ type_text type ++ codes ") " ++ imm_text b value
rhs_text b (rhs.Load base sig) = field_text b base sig
rhs_text b (rhs.StaticLoad sig) = field_sig_text sig
rhs_text b (rhs.Element base index) = element_text b base index
rhs_text b (rhs.New class) = codes "new " ++ name_text class
rhs_text b (rhs.NewArray type len) = codes "newarray (" ++ type_text type ++ codes ")" ++ length_text b len
rhs_text b (rhs.NewMulti type lens bare) =
    codes "newmultiarray (" ++ type_text type ++ codes ")" ++ flat_map (length_text b) lens ++ brackets bare
rhs_text b (rhs.InstanceOf value type) = imm_text b value ++ codes " instanceof " ++ type_text type
rhs_text b (rhs.Length value) = codes "lengthof " ++ imm_text b value
rhs_text b (rhs.Neg value) = codes "neg " ++ imm_text b value
rhs_text b (rhs.Binary op left right) = imm_text b left ++ op_text op ++ imm_text b right
rhs_text b (rhs.Call invoke) = invoke_text b invoke

-- a jump to the label of a number
unfoldable pub goto_text : ℕ → List ℕ
goto_text number = codes "goto " ++ label_text number ++ codes ";"

abbrev pub switch_word : Bool → List ℕ
switch_word true = codes "tableswitch("
switch_word false = codes "lookupswitch("

unfoldable pub case_head : List ℕ → List ℕ
case_head value = codes "            case " ++ value ++ codes ": "

unfoldable pub case_line : Body → Case → List ℕ
case_line b c = case_head c.value ++ goto_text (label_number b c.target) ++ codes "\n"

unfoldable pub default_line : ℕ → List ℕ
default_line number = codes "            default: " ++ goto_text number ++ codes "\n"

abbrev pub stmt_text : Body → Stmt → List ℕ
stmt_text b (stmt.Identity local what) = local_text b local ++ codes " := " ++ given_text what ++ codes ";"
stmt_text b (stmt.Assign place rhs) = place_text b place ++ codes " = " ++ rhs_text b rhs ++ codes ";"
stmt_text b (stmt.Call invoke) = invoke_text b invoke ++ codes ";"
stmt_text b (stmt.If left cond right target) =
    codes "if " ++ imm_text b left ++ cond_text cond ++ imm_text b right ++ codes " " ++ goto_text (label_number b target)
stmt_text b (stmt.Goto target) = goto_text (label_number b target)
stmt_text b (stmt.Switch table key cases default) =
    switch_word table ++ imm_text b key ++ codes ") {\n" ++ flat_map (case_line b) cases ++ default_line (label_number b default)
    ++ codes "        };"
stmt_text b (stmt.Return None) = codes "return;"
stmt_text b (stmt.Return (Some value)) = codes "return " ++ imm_text b value ++ codes ";"
stmt_text b (stmt.Throw value) = codes "throw " ++ imm_text b value ++ codes ";"
stmt_text b stmt.Nop = codes "nop;"
stmt_text b (stmt.Enter value) = codes "entermonitor " ++ imm_text b value ++ codes ";"
stmt_text b (stmt.Exit value) = codes "exitmonitor " ++ imm_text b value ++ codes ";"

unfoldable pub stmt_line : Body → Stmt → List ℕ
stmt_line b s = codes "        " ++ stmt_text b s ++ codes "\n"

-- the statements of a body from a place on, each behind its label, and the label of the end
abbrev pub lines_from : Body → ℕ → List Stmt → List ℕ
lines_from b place [] = label_line b place
lines_from b place (s ∷ rest) = label_line b place ++ stmt_line b s ++ lines_from b (suc place) rest

unfoldable pub local_line : Local → List ℕ
local_line l = codes "        " ++ type_text l.ty ++ codes " " ++ name_text l.name ++ codes ";\n"

unfoldable pub catch_head : List ℕ → List ℕ
catch_head class = codes "        catch " ++ name_text class

unfoldable pub catch_line : Body → Catch → List ℕ
catch_line b c =
    catch_head c.class ++ codes " from " ++ label_text (label_number b c.from) ++ codes " to "
    ++ label_text (label_number b c.to) ++ codes " with " ++ label_text (label_number b c.with) ++ codes ";\n"

abbrev pub body_text : Body → List ℕ
body_text b = flat_map local_line b.locals ++ lines_from b 0 b.stmts ++ flat_map (catch_line b) b.catches
