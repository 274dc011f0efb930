-- `checking::tour::Tour::turn` meets its contract. Assumes nothing.
use Rattle.checking.proofs.tour.Tour.turn.Goals as goal

pub returns : goal.returns
returns c = rw (c.channel_from.ensures, c.before_from.ensures, c.day_from.ensures, c.under_from-under.ensures)
