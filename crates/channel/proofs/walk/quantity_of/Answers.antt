-- `channel::walk::quantity_of` meets its contract. Assumes nothing.
use Rattle.channel.proofs.Find.{quantity-is}
use Rattle.channel.proofs.walk.quantity_of.Goals as goal

pub returns : goal.returns
returns c = search quantity-is
