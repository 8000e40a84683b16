use Rattle.std.proofs.Common.{◌∙◌, ap, ◌+◌, slice_index, ℕ}
use Rattle.jimple_lex.specs.Signs.{sign_length}
use Rattle.jimple_lex.proofs.LongestSign.{sign_there}
use Rattle.jimple_lex.proofs.ends.sign_end.Goals as goal

pub returns : goal.returns
returns c = sign_there c.args.bytes.now c.args.at c.sign_length.result c.requires.within c.requires.front
    (c.sign_length.ensures ∙ ap (λ (k : ℕ). sign_length (slice_index c.args.bytes.now c.args.at) k c.byte_at-2.result) c.byte_at.ensures
    ∙ ap (λ (k : ℕ). sign_length (slice_index c.args.bytes.now c.args.at) (slice_index c.args.bytes.now (c.args.at + 1)) k) c.byte_at-2.ensures)
