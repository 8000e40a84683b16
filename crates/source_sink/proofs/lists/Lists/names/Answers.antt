use Rattle.std.proofs.Common.{◌↔◌, List, IsTrue, map, not, subst}
use Rattle.source_sink.specs.declared.line.Line.{Line}
use Rattle.source_sink.specs.Lists.{Names}
use Rattle.source_sink.specs.ReadingLists.{name_of}
use Rattle.source_sink.proofs.Named.{has_places}
use Rattle.source_sink.proofs.lists.Lists.names.Goals as goal

pub returns : goal.returns
returns c =
    let lines = c.self.inside.lines.items in
    let name = c.args.name.now in
    subst (λ (ls : List Line). IsTrue (not c.is_empty.result) ↔ Names ls name) c.self.view_is (has_places lines name c.places.result.now c.is_empty.result c.is_empty.ensures (c.places.ensures.exact (map name_of lines) c.self.invariant))
