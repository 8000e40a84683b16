use Rattle.std.proofs.Common.{refl}
use Rattle.reach_rows.proofs.Words.{own_set, own_kept, own_only}
use Rattle.reach_rows.proofs.closure.set_own.Goals as goal

pub returns-clause-own : goal.returns-clause-own
returns-clause-own c = own_set c.args.width c.args.bits.now _ c.args.a c.requires.column c.requires.word refl

pub returns-clause-kept : goal.returns-clause-kept
returns-clause-kept c = own_kept c.args.width c.args.bits.now _ c.args.a c.requires.column c.requires.word refl

pub returns-clause-only : goal.returns-clause-only
returns-clause-only c = own_only c.args.width c.args.bits.now _ c.args.a c.requires.column c.requires.word refl
