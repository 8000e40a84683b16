-- Sets of kinds that the grammar names.
use Rattle.std.specs.Prelude.{[], ◌∷◌, ◌++◌}
use Rattle.jimple_words.specs.declared.kind.Kind.TheVariants as kinds
use Rattle.jimple_words.specs.Kind.{Kinds}

-- words that aren't keywords
abbrev pub names : Kinds
names = kinds.Word ∷ kinds.Further ∷ kinds.This ∷ kinds.Caughtexception ∷ kinds.Parameter ∷ kinds.HighParameter ∷ kinds.Handle ∷ []

abbrev pub primitives : Kinds
primitives = kinds.Void ∷ kinds.Boolean ∷ kinds.Byte ∷ kinds.Short ∷ kinds.Char ∷ kinds.Int ∷ kinds.Long ∷ kinds.Float ∷ kinds.Double ∷ kinds.NullType ∷ kinds.Unknown ∷ []

abbrev pub types : Kinds
types = names ++ primitives

-- all words, keywords too
abbrev pub words : Kinds
words = kinds.Word ∷ kinds.Further ∷ kinds.This ∷ kinds.Caughtexception ∷ kinds.Parameter ∷ kinds.HighParameter ∷ kinds.Handle ∷ kinds.Abstract ∷ kinds.Final ∷ kinds.Native ∷ kinds.Public ∷ kinds.Protected ∷ kinds.Private
    ∷ kinds.Static ∷ kinds.Synchronized ∷ kinds.Transient ∷ kinds.Volatile ∷ kinds.Strictfp ∷ kinds.Enum ∷ kinds.Annotation
    ∷ kinds.Class ∷ kinds.Interface ∷ kinds.Void ∷ kinds.Boolean ∷ kinds.Byte ∷ kinds.Short ∷ kinds.Char ∷ kinds.Int ∷ kinds.Long
    ∷ kinds.Float ∷ kinds.Double ∷ kinds.NullType ∷ kinds.Unknown ∷ kinds.Extends ∷ kinds.Implements ∷ kinds.Breakpoint
    ∷ kinds.Case ∷ kinds.Catch ∷ kinds.Cmp ∷ kinds.Cmpg ∷ kinds.Cmpl ∷ kinds.Default ∷ kinds.Entermonitor ∷ kinds.Exitmonitor
    ∷ kinds.From ∷ kinds.Goto ∷ kinds.If ∷ kinds.Instanceof ∷ kinds.Interfaceinvoke ∷ kinds.Lengthof ∷ kinds.Lookupswitch
    ∷ kinds.Neg ∷ kinds.New ∷ kinds.Newarray ∷ kinds.Newmultiarray ∷ kinds.Nop ∷ kinds.Null ∷ kinds.Ret ∷ kinds.Return
    ∷ kinds.Specialinvoke ∷ kinds.Staticinvoke ∷ kinds.Dynamicinvoke ∷ kinds.Tableswitch ∷ kinds.Throw ∷ kinds.Throws
    ∷ kinds.To ∷ kinds.Virtualinvoke ∷ kinds.With ∷ []

-- names but those that are refused where an operand begins
abbrev pub plain_names : Kinds
plain_names = kinds.Word ∷ kinds.Further ∷ kinds.This ∷ kinds.Caughtexception ∷ kinds.Parameter ∷ kinds.HighParameter ∷ []

abbrev pub modifiers : Kinds
modifiers = kinds.Abstract ∷ kinds.Final ∷ kinds.Native ∷ kinds.Public ∷ kinds.Protected ∷ kinds.Private ∷ kinds.Static ∷ kinds.Synchronized
    ∷ kinds.Transient ∷ kinds.Volatile ∷ kinds.Strictfp ∷ kinds.Enum ∷ kinds.Annotation ∷ []

-- operands of one token that are no local
abbrev pub constants : Kinds
constants = kinds.Number ∷ kinds.Text ∷ kinds.Null ∷ []

abbrev pub conditions : Kinds
conditions = kinds.EqualsEquals ∷ kinds.NotEquals ∷ kinds.Less ∷ kinds.LessEquals ∷ kinds.Greater ∷ kinds.GreaterEquals ∷ []

abbrev pub operators : Kinds
operators = kinds.Plus ∷ kinds.Minus ∷ kinds.Star ∷ kinds.Slash ∷ kinds.Percent ∷ kinds.Ampersand ∷ kinds.Bar ∷ kinds.Caret
    ∷ kinds.ShiftLeft ∷ kinds.ShiftRight ∷ kinds.ShiftRightUnsigned ∷ kinds.Cmp ∷ kinds.Cmpg ∷ kinds.Cmpl ∷ []

-- words of calls with a base
abbrev pub based_calls : Kinds
based_calls = kinds.Virtualinvoke ∷ kinds.Interfaceinvoke ∷ kinds.Specialinvoke ∷ []

abbrev pub switches : Kinds
switches = kinds.Lookupswitch ∷ kinds.Tableswitch ∷ []

-- what a statement begins with that doesn't begin with a local
abbrev pub statement_words : Kinds
statement_words = kinds.Less ∷ kinds.Staticinvoke ∷ kinds.Virtualinvoke ∷ kinds.Interfaceinvoke ∷ kinds.Specialinvoke ∷ kinds.Dynamicinvoke ∷ kinds.If ∷ kinds.Goto
    ∷ kinds.Lookupswitch ∷ kinds.Tableswitch ∷ kinds.Return ∷ kinds.Throw ∷ kinds.Nop ∷ kinds.Entermonitor ∷ kinds.Exitmonitor ∷ kinds.Ret ∷ kinds.Breakpoint ∷ []

-- a type's base that is no word which may be a modifier
abbrev pub sure_types : Kinds
sure_types = kinds.Word ∷ kinds.This ∷ kinds.Caughtexception ∷ kinds.Parameter ∷ kinds.HighParameter ∷ kinds.Handle ∷ primitives
