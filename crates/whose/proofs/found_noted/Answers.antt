-- `whose::found_noted` meets its contract. Assumes nothing.
use Rattle.whose.proofs.Found.{stands, find_none, find_at}
use Rattle.whose.proofs.found_noted.Goals as goal

pub found_at-requires : goal.found_at-requires
found_at-requires c = search stands

pub returns-in-None : goal.returns-in-None
returns-in-None c = search find_none

pub returns-in-Some : goal.returns-in-Some
returns-in-Some c = search find_at
