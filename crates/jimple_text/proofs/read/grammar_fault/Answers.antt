use Rattle.std.proofs.Common.{List, Err, subst}
use Rattle.jimple_grammar.specs.declared.cursor.ParseStop.{ParseStop}
use Rattle.jimple_grammar.specs.declared.raw.RawClass.{RawClass}
use Rattle.jimple_grammar.specs.Forms.{file as file_form}
use Rattle.jimple_grammar.specs.Lexemes.{lexemes}
use Rattle.jimple_grammar.specs.Stops.{Told}
use Rattle.jimple_text.proofs.Told.{syntax_refused}
use Rattle.jimple_text.proofs.read.grammar_fault.Goals as goal

pub returns-in-Syntax : goal.returns-in-Syntax
returns-in-Syntax c =
    let told = subst (λ (s : ParseStop). Told {A = List RawClass} file_form (lexemes c.args.bytes.now c.args.tokens.now) (Err s)) c.in-Syntax.is c.requires.3 in
    syntax_refused c.args.file c.args.bytes.now c.args.tokens.now c.requires.2 c.in-Syntax.left c.place-at.result told c.place-at.ensures
