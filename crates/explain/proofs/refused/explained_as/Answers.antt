-- `explain::refused::explained_as` meets its contract. Assumes nothing.
use Rattle.explain.proofs.Saying.{explained-put, explained-bare}
use Rattle.explain.proofs.refused.explained_as.Goals as goal

pub returns-then-has_place : goal.returns-then-has_place
returns-then-has_place c = search explained-put

pub returns-else-has_place : goal.returns-else-has_place
returns-else-has_place c = search explained-bare
