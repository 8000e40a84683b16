-- What a function of the parser gives, by what reading its form gives.
use Rattle.std.specs.Prelude.{◌≡◌, ℕ, suc, List, ◌++◌, length, Result, Ok, Err}
use Rattle.jimple_grammar.specs.declared.lexeme.Lexeme.{Lexeme}
use Rattle.jimple_grammar.specs.declared.cursor.ParseStop.{ParseStop}
use Rattle.jimple_grammar.specs.declared.cursor.ParseStop.TheVariants as stops
use Rattle.jimple_grammar.specs.declared.cursor.Reason.{Reason}
use Rattle.jimple_grammar.specs.declared.cursor.Reason.TheVariants as reasons
use Rattle.jimple_grammar.specs.Forms.{unsupported, too_many, word_before}
use Rattle.jimple_grammar.specs.Reading.{Read}

abbrev pub reason_number : Reason → ℕ
reason_number reasons.Unsupported = unsupported
reason_number reasons.TooMany = too_many
reason_number reasons.WordBefore = word_before

abbrev pub Fails : {Y : Type 0} → ParseStop → Read Y → Type 0
Fails stops.OutOfMemory read = Unit {0}
Fails (stops.Syntax count) read = (left : List Lexeme) × (read ≡ Err (left, 0)) × (count ≡ length left)
Fails (stops.Refused why count) read = (left : List Lexeme) × (read ≡ Err (left, suc (reason_number why))) × (count ≡ length left)

-- the value that is read, seen so, and the tokens left; or why it stops
abbrev pub Gives : {X Y : Type 0} → (X → Y) → Result X ParseStop → List Lexeme → Read Y → Type 0
Gives view (Ok x) left read = read ≡ Ok (view x, left)
Gives view (Err e) left read = Fails e read

-- the list grows by what was read
abbrev pub GivesMore : {X : Type 0} → Result (Unit {0}) ParseStop → List X → List X → List Lexeme → Read (List X) → Type 0
GivesMore {X} (Ok u) old new left read = (xs : List X) × (read ≡ Ok (xs, left)) × (new ≡ old ++ xs)
GivesMore (Err e) old new left read = Fails e read

-- the list grows by the first part of what was read, and the second part is given
abbrev pub GivesMoreWith : {X Y : Type 0} → Result Y ParseStop → List X → List X → List Lexeme → Read (List X × Y) → Type 0
GivesMoreWith {X} (Ok y) old new left read = (xs : List X) × (read ≡ Ok ((xs, y), left)) × (new ≡ old ++ xs)
GivesMoreWith (Err e) old new left read = Fails e read
