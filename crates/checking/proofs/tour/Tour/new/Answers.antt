-- `checking::tour::Tour::new` meets its contract. Assumes nothing.
use Rattle.checking.proofs.tour.Tour.new.Goals as goal

pub returns : goal.returns
returns c = rw (c.first_channel.ensures, c.first_day.ensures, c.no_channel.ensures)
