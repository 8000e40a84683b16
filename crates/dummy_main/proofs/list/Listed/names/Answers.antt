use Rattle.std.proofs.Common.{map}
use Rattle.dummy_main.specs.Listing.{name_of}
use Rattle.dummy_main.proofs.Read.{has_place}
use Rattle.dummy_main.proofs.list.Listed.names.Goals as goal

pub returns : goal.returns
returns c =
    let names = map name_of c.args.self.now.components.items in
    has_place names c.args.class.now c.places.result.now c.is_empty.result (c.places.ensures.exact names c.requires) c.is_empty.ensures
