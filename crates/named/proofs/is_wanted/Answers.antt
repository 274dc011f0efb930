-- `named::is_wanted` meets its contract. Assumes nothing.
use Rattle.day.proofs.Find.{day-order, room-behind, heads-found}
use Rattle.named.proofs.Search.{wanted-at, wanted-none}
use Rattle.named.proofs.is_wanted.Goals as goal

pub has_key-requires : goal.has_key-requires
has_key-requires c = (search day-order, search room-behind, search heads-found)

pub returns-in-Some : goal.returns-in-Some
returns-in-Some c = search wanted-at

pub returns-in-None : goal.returns-in-None
returns-in-None c = search wanted-none
