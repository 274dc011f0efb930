-- `channel::total_noted` meets its contract. Assumes nothing.
use Rattle.channel.proofs.Find.{next-noted, noted-is}
use Rattle.passing.proofs.Walk.{file-short}
use borrow.Author.Rules.{rules}
use Rattle.channel.proofs.total_noted.Goals as goal

pub total_place-answer-requires : goal.total_place-answer-requires
total_place-answer-requires c = (search rules, search file-short)

pub returns : goal.returns
returns c = record { is = search noted-is; place = search rules; inside = search rules; next = search next-noted }
