use Rattle.taint_problem.proofs.places.near.Goals as goal

pub returns-in-Forward-clause-are : goal.returns-in-Forward-clause-are
returns-in-Forward-clause-are c = rw c.in-Forward.is c.succs.ensures.are

pub returns-in-Backward-clause-are : goal.returns-in-Backward-clause-are
returns-in-Backward-clause-are c = rw c.in-Backward.is c.preds.ensures.are
