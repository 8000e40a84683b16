use Rattle.std.proofs.Common.{bit_or, get_or, refl}
use Rattle.reach_rows.proofs.Words.{total_more, or_more}
use Rattle.reach_rows.proofs.closure.add_word.Goals as goal

pub returns-clause-more : goal.returns-clause-more
returns-clause-more c e =
    let bits = c.args.bits.now in
    let old = get_or bits c.args.at 0 in
    let word = bit_or old (get_or bits c.args.from 0) in
    total_more bits _ c.args.at word c.requires.at refl (or_more old (get_or bits c.args.from 0) c.if-word-bits.false)
