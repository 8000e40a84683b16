use Rattle.std.proofs.Common.{◌≡◌, List, ℕ, Option, Some, None, sym, subst, rules}
use Rattle.clean_base.specs.Device.{Reads}
use Rattle.clean_base.specs.Memory.{held_by, or_empty}
use Rattle.clean_base.proofs.memory.SureShelfShelf.read_at.Goals as goal

pub returns-in-Some-clause-bytes : goal.returns-in-Some-clause-bytes
returns-in-Some-clause-bytes c =
    let held : held_by c.args.self.now.files.items c.args.name.now ≡ Some c.in-Some.bytes.now = search rules in
    subst (λ (held : Option (List ℕ)). Reads (or_empty held) c.args.from c.copy.result c.copy.new.into) (sym held) c.copy.ensures.bytes

pub returns-in-None-clause-bytes : goal.returns-in-None-clause-bytes
returns-in-None-clause-bytes c =
    let none : held_by c.args.self.now.files.items c.args.name.now ≡ None = search rules in
    subst (λ (held : Option (List ℕ)). Reads (or_empty held) c.args.from 0 c.args.into.now) (sym none) (search rules)
