-- Behind a day the next one is found.
use Rattle.filling.proofs.Cases.{next-noted}
use Rattle.nem_csv.proofs.days.turn.Goals as goal

pub returns : goal.returns
returns g c = search next-noted
