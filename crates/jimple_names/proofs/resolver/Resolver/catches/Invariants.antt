use Rattle.std.proofs.Common.{◌≡◌, map, take, drop}
use Rattle.jimple_names.specs.Faults.{first, catch_fault}
use Rattle.jimple_names.specs.Tree.{catch_of}
use Rattle.jimple_names.specs.Resolving.{seen}
use Rattle.jimple_names.proofs.resolver.Resolver.catches.Given as goal

abbrev pub invariant-loop-next : goal.invariant-loop-next
invariant-loop-next l = record {
  made : l.catches.items ≡ map (catch_of l.self.bytes.now (seen l.self.names.locals.now l.self.names.labels.now l.self.count)) (take l.next-index l.raw);
  rest : first (catch_fault l.self.bytes.now (seen l.self.names.locals.now l.self.names.labels.now l.self.count)) l.raw ≡ first (catch_fault l.self.bytes.now (seen l.self.names.locals.now l.self.names.labels.now l.self.count)) (drop l.next-index l.raw);
}
