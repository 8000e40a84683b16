use Rattle.std.proofs.Common.{subst}
use Rattle.jimple_grammar.specs.declared.raw.RawGiven.{RawGiven}
use Rattle.jimple_grammar.specs.Fits.{GivenFits}
use Rattle.jimple_names.specs.Resolving.{Given}
use Rattle.jimple_names.proofs.Parameters.{few}
use Rattle.jimple_names.proofs.resolver.Resolver.given.Goals as goal

pub parameter_of-number-requires : goal.parameter_of-number-requires
parameter_of-number-requires c =
    let asked = subst (λ (g : RawGiven). Given c.args.self.now.bytes.now (λ P n. GivenFits P n g)) c.in-Param.is c.requires in
    few c.args.self.now.bytes.now c.in-Param.word c.in-Param.ty asked
