use Rattle.std.proofs.lemmas.Result.{on_ok_weaker}
use Rattle.name_index.proofs.Adding.{added_at}
use Rattle.name_index.proofs.index.NameIndex.add.Goals as goal

pub returns : goal.returns
returns c = on_ok_weaker c.add_place.result (λ adds names at is. added_at names c.args.name.now c.args.place c.args.self.now c.add_place.new.self at adds is) c.add_place.ensures
