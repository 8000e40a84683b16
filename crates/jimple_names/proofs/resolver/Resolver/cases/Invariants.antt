use Rattle.std.proofs.Common.{◌≡◌, map, take, drop}
use Rattle.jimple_names.specs.Faults.{first, case_fault}
use Rattle.jimple_names.specs.Tree.{case_of}
use Rattle.jimple_names.specs.Resolving.{seen}
use Rattle.jimple_names.proofs.resolver.Resolver.cases.Given as goal

abbrev pub invariant-loop-next : goal.invariant-loop-next
invariant-loop-next l = record {
  made : l.cases.items ≡ map (case_of l.self.bytes.now (seen l.self.names.locals.now l.self.names.labels.now l.self.count)) (take l.next-index l.raw);
  rest : first (case_fault l.self.bytes.now (seen l.self.names.locals.now l.self.names.labels.now l.self.count)) l.raw ≡ first (case_fault l.self.bytes.now (seen l.self.names.locals.now l.self.names.labels.now l.self.count)) (drop l.next-index l.raw);
}
