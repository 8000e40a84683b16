-- The kinds by number, in the order of their declaration, and which of a list a kind is.
use Rattle.std.specs.Prelude.{ℕ, Bool, false, List, [], ◌∷◌, ◌==◌}
use mathlib.Core.Bool.{◌||◌}
use Rattle.jimple_words.specs.declared.kind.Kind.{Kind}
use Rattle.jimple_words.specs.declared.kind.Kind.TheVariants as kinds

abbrev pub number : Kind → ℕ
number kinds.Word = 0
number kinds.Further = 1
number kinds.This = 2
number kinds.Caughtexception = 3
number kinds.Parameter = 4
number kinds.HighParameter = 5
number kinds.Handle = 6
number kinds.Abstract = 7
number kinds.Final = 8
number kinds.Native = 9
number kinds.Public = 10
number kinds.Protected = 11
number kinds.Private = 12
number kinds.Static = 13
number kinds.Synchronized = 14
number kinds.Transient = 15
number kinds.Volatile = 16
number kinds.Strictfp = 17
number kinds.Enum = 18
number kinds.Annotation = 19
number kinds.Class = 20
number kinds.Interface = 21
number kinds.Void = 22
number kinds.Boolean = 23
number kinds.Byte = 24
number kinds.Short = 25
number kinds.Char = 26
number kinds.Int = 27
number kinds.Long = 28
number kinds.Float = 29
number kinds.Double = 30
number kinds.NullType = 31
number kinds.Unknown = 32
number kinds.Extends = 33
number kinds.Implements = 34
number kinds.Breakpoint = 35
number kinds.Case = 36
number kinds.Catch = 37
number kinds.Cmp = 38
number kinds.Cmpg = 39
number kinds.Cmpl = 40
number kinds.Default = 41
number kinds.Entermonitor = 42
number kinds.Exitmonitor = 43
number kinds.From = 44
number kinds.Goto = 45
number kinds.If = 46
number kinds.Instanceof = 47
number kinds.Interfaceinvoke = 48
number kinds.Lengthof = 49
number kinds.Lookupswitch = 50
number kinds.Neg = 51
number kinds.New = 52
number kinds.Newarray = 53
number kinds.Newmultiarray = 54
number kinds.Nop = 55
number kinds.Null = 56
number kinds.Ret = 57
number kinds.Return = 58
number kinds.Specialinvoke = 59
number kinds.Staticinvoke = 60
number kinds.Dynamicinvoke = 61
number kinds.Tableswitch = 62
number kinds.Throw = 63
number kinds.Throws = 64
number kinds.To = 65
number kinds.Virtualinvoke = 66
number kinds.With = 67
number kinds.Number = 68
number kinds.Text = 69
number kinds.OpenBrace = 70
number kinds.CloseBrace = 71
number kinds.OpenParen = 72
number kinds.CloseParen = 73
number kinds.OpenBracket = 74
number kinds.CloseBracket = 75
number kinds.Comma = 76
number kinds.Semicolon = 77
number kinds.Colon = 78
number kinds.ColonEquals = 79
number kinds.Dot = 80
number kinds.At = 81
number kinds.Equals = 82
number kinds.EqualsEquals = 83
number kinds.NotEquals = 84
number kinds.Less = 85
number kinds.LessEquals = 86
number kinds.Greater = 87
number kinds.GreaterEquals = 88
number kinds.ShiftLeft = 89
number kinds.ShiftRight = 90
number kinds.ShiftRightUnsigned = 91
number kinds.Plus = 92
number kinds.Minus = 93
number kinds.Star = 94
number kinds.Slash = 95
number kinds.Percent = 96
number kinds.Ampersand = 97
number kinds.Bar = 98
number kinds.Caret = 99

abbrev pub Kinds : Type 0
Kinds = List Kind

abbrev pub among : Kinds → ℕ → Bool
among [] n = false
among (k ∷ ks) n = (n == number k) || among ks n

-- The kind is one of these.
abbrev pub has : Kinds → Kind → Bool
has ks k = among ks (number k)
