use Rattle.std.proofs.Common.{refl}
use Rattle.app_program.proofs.program.parts_of.Goals as goal

pub returns-clause-gathered : goal.returns-clause-gathered
returns-clause-gathered c =
    let all = c.in_ok-views.ensures in
    record {
      table = refl;
      fields = c.requires.fields;
      root = c.requires.root;
      counted = all.counted;
      locals = all.locals;
      statements = all.statements;
      all_seen = all.all_seen;
      seen = all.seen;
      returns = all.returns;
      throws = all.throws;
      calls = all.reach.0;
      called = all.reach.1;
      closure = all.reach.2;
    }
