-- `day_sums::channel_field` meets its contract. Assumes nothing.
use Rattle.day_sums.proofs.Seeks.{field-there}
use Rattle.day_sums.proofs.channel_field.Goals as goal

pub returns : goal.returns
returns c = search field-there
