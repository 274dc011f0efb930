-- `explain::refused::told_place` meets its contract. Assumes nothing.
use Rattle.explain.proofs.Saying.{told-place, told-nowhere}
use Rattle.explain.proofs.refused.told_place.Goals as goal

pub returns-then-has_place : goal.returns-then-has_place
returns-then-has_place c = search told-place

pub returns : goal.returns
returns c = search told-nowhere
