-- The limits of the program (docs/COMMANDS.md, "Limits").
use Rattle.std.specs.Prelude.{ℕ}

-- the most bytes of class text in all, and of each other file
abbrev pub class_room : ℕ
class_room = 268435456

abbrev pub list_room : ℕ
list_room = 16777216

-- the most names of classes that a program gives and names
abbrev pub most_classes : ℕ
most_classes = 65535

-- the most methods with a body
abbrev pub most_methods : ℕ
most_methods = 32768

-- the most statements of all bodies
abbrev pub most_stmts : ℕ
most_stmts = 4194304

-- the most fields, the two own ones included
abbrev pub most_fields : ℕ
most_fields = 1048576

-- the most locals of a body, and parameters of a method
abbrev pub most_locals : ℕ
most_locals = 65535

abbrev pub most_params : ℕ
most_params = 255
