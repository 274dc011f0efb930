-- `checking::tour::refused` meets its contract. Assumes nothing.
use Rattle.checking.proofs.tour.refused.Goals as goal

pub returns : goal.returns
returns c = rw (c.first_day.ensures, c.first_channel.ensures)
