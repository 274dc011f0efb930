-- `making::make_store` meets its contract. Assumes nothing.
use Rattle.making.proofs.Makes.{slots-good, slots-few, slots-bad}
use Rattle.making.proofs.make_store.Goals as goal

pub make_slots-requires : goal.make_slots-requires
make_slots-requires c = (search slots-good, search slots-few)

pub returns : goal.returns
returns c = search slots-bad
