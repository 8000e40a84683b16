use Rattle.std.proofs.Common.{◌≡◌, map, take, drop}
use Rattle.jimple_names.specs.Faults.{first, imm_fault}
use Rattle.jimple_names.specs.Tree.{imm_of}
use Rattle.jimple_names.specs.Resolving.{seen}
use Rattle.jimple_names.proofs.resolver.Resolver.imms.Given as goal

abbrev pub invariant-loop-operand : goal.invariant-loop-operand
invariant-loop-operand l = record {
  made : l.imms.items ≡ map (imm_of l.self.bytes.now (seen l.self.names.locals.now l.self.names.labels.now l.self.count)) (take l.operand-index l.raw);
  rest : first (imm_fault l.self.bytes.now (seen l.self.names.locals.now l.self.names.labels.now l.self.count)) l.raw ≡ first (imm_fault l.self.bytes.now (seen l.self.names.locals.now l.self.names.labels.now l.self.count)) (drop l.operand-index l.raw);
}
