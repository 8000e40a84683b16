use Rattle.std.proofs.Common.{map, take}
use Rattle.name_index.specs.Index.{IsIndex}
use Rattle.source_sink.specs.ReadingLists.{name_of}
use Rattle.source_sink.proofs.lists.index_of.Given as goal

abbrev pub invariant-loop-number : goal.invariant-loop-number
invariant-loop-number l = IsIndex (take l.number (map name_of l.lines)) l.index
