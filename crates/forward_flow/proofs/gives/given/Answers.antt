use Rattle.forward_flow.proofs.gives.given.Goals as goal

pub returns-in-Load : goal.returns-in-Load
returns-in-Load c = rw c.in-Load.is c.loaded.ensures
