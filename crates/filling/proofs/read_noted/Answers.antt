-- `filling::read_noted` meets its contract. Assumes nothing.
use Rattle.filling.proofs.Cases.{place-sound, next-noted, noted-is}
use borrow.Author.Rules.{rules}
use Rattle.filling.proofs.read_noted.Goals as goal

pub read_place-answer-requires : goal.read_place-answer-requires
read_place-answer-requires c = (search rules, search place-sound)

pub returns : goal.returns
returns c = record { is = search noted-is; place = search rules; inside = search rules; next = search next-noted }
