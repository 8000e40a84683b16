use Rattle.std.proofs.Common.{◌≡◌, List, ℕ, ◌++◌, OnOk, sym, subst, append-nil, arith}
use Rattle.leak_report.proofs.Numbered.{no_text, own_text_of}
use Rattle.leak_report.proofs.printed.write_method_at.Goals as goal

pub returns-then-m-methods : goal.returns-then-m-methods
returns-then-m-methods c =
    let none = no_text c.args.table.now c.args.m (omega (arith, c.methods.ensures, c.if-m-methods.true)) in
    rw none (sym (append-nil c.args.out.now.items))

pub returns : goal.returns
returns c =
    let text = own_text_of c.args.table.now c.args.m c.owner.result c.name.result.now c.method.result.now c.owner.ensures c.name.ensures c.method.ensures in
    subst (λ (t : List ℕ). OnOk c.write_method.result (c.write_method.new.out.items ≡ c.args.out.now.items ++ t)) text c.write_method.ensures
