-- `run` meets its contract: the search begins at the first symbol, with nothing found. Assumes nothing.
use Rattle.near.proofs.search.Levels.{ran}
use Rattle.near.proofs.search.run.Goals as goal

pub returns : goal.returns
returns c =
    ran c.plan_of-plan.ensures c.requires.runs
    c.level.ensures
