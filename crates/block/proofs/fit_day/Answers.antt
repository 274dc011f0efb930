-- `block::fit_day` meets its contract. Assumes nothing.
use Rattle.block.proofs.Pieces.{head-unfit, marks-unfit, day-measured}
use Rattle.block.proofs.fit_day.Goals as goal

pub returns-then-not-fit_head : goal.returns-then-not-fit_head
returns-then-not-fit_head c = search head-unfit

pub returns-then-not-fit_marks : goal.returns-then-not-fit_marks
returns-then-not-fit_marks c = search marks-unfit

pub returns : goal.returns
returns c = search day-measured
