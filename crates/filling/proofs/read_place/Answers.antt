-- `filling::read_place` meets its contract. Assumes nothing.
use Rattle.day.proofs.Find.{under-order, under-within}
use Rattle.filling.proofs.Cases.{day-here, day-missing, day-found}
use Rattle.filling.proofs.read_place.Goals as goal

pub intervals_of-requires : goal.intervals_of-requires
intervals_of-requires c = (search under-order, search under-within)

pub unit_of-requires : goal.unit_of-requires
unit_of-requires c = (search under-order, search under-within)

pub read_at-requires : goal.read_at-requires
read_at-requires c = search day-here

pub returns-in-None : goal.returns-in-None
returns-in-None c = search day-missing

pub returns-in-Some : goal.returns-in-Some
returns-in-Some c = search day-found
