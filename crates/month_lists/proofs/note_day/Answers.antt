-- `month_lists::note_day` meets its contract. Assumes nothing.
use Rattle.month_lists.specs.Laid.{noted}
use mathlib.Core.Path.{refl}
use Rattle.month_lists.proofs.note_day.Goals as goal

pub returns : goal.returns
unfolding noted
returns c = refl
