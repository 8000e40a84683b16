use Rattle.std.proofs.Common.{◌≡◌, take, flat_map}
use Rattle.jimple_grammar.specs.declared.raw.RawDecl.{RawDecl}
use Rattle.jimple_names.proofs.bodies.declared.Given as goal

abbrev pub invariant-loop-decl : goal.invariant-loop-decl
invariant-loop-decl l = l.tokens.items ≡ flat_map (λ (d : RawDecl). d.names) (take l.decl-index l.decls)
