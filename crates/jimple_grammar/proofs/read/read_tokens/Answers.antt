use Rattle.std.proofs.Common.{List, length, ◌∙◌, subst}
use Rattle.std.proofs.lemmas.List.{length-map}
use Rattle.jimple_grammar.specs.declared.lexeme.Lexeme.{Lexeme}
use Rattle.jimple_grammar.specs.Forms.{file}
use Rattle.jimple_grammar.specs.Lexemes.{lexeme, lexemes}
use Rattle.jimple_grammar.specs.Stops.{Told}
use Rattle.jimple_grammar.proofs.WholeFile.{told_fits}
use Rattle.jimple_grammar.proofs.read.read_tokens.Goals as goal

pub returns-clause-fits : goal.returns-clause-fits
returns-clause-fits c = told_fits (lexemes c.args.bytes.now c.args.tokens.now) (length c.args.tokens.now) c.read_file.result (length-map c.args.tokens.now (lexeme c.args.bytes.now))
    (subst (λ (ts : List Lexeme). Told file ts c.read_file.result) (c.as_slice.ensures.value ∙ c.in_ok-lexemes.ensures) c.read_file.ensures)
