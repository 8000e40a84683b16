use Rattle.std.proofs.Common.{◌≡◌, take}
use Rattle.jimple_grammar.specs.Lexemes.{lexemes}
use Rattle.jimple_grammar.proofs.tokens.lexemes.Given as goal

abbrev pub invariant-loop-token : goal.invariant-loop-token
invariant-loop-token l = l.lexemes.items ≡ lexemes l.bytes (take l.token-index l.tokens)
