use Rattle.jimple_names.proofs.members.add_key.Goals as goal

pub returns-then-branch-clause-more : goal.returns-then-branch-clause-more
returns-then-branch-clause-more c = λ q. c.in_ok-insert.ensures.updates.0 q
