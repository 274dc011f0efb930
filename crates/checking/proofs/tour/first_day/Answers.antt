-- `checking::tour::first_day` meets its contract. Assumes nothing.
use Rattle.checking.proofs.tour.first_day.Goals as goal

pub returns : goal.returns
returns c = rw c.no_channel.ensures
