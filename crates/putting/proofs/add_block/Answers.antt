-- `putting::add_block` meets its contract. Assumes nothing.
use mathlib.Core.Path.{refl}
use Rattle.putting.proofs.Adds.{added-writes, added}
use Rattle.putting.proofs.add_block.Goals as goal

pub write_measured-requires : goal.write_measured-requires
write_measured-requires c = search added-writes

pub returns : goal.returns
returns c = added c.requires c.settle-end.ensures c.write_measured.ensures refl
