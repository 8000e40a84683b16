use Rattle.field_table.proofs.Keys.{name_place}
use Rattle.field_table.proofs.key.place_of.Goals as goal

pub returns : goal.returns
returns c = name_place c.args.names.now.keys c.args.name.now c.get_index_of.result c.get_index_of.ensures.index c.get_index_of.ensures.found
