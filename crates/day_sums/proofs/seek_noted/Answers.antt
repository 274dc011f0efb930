-- `day_sums::seek_noted` meets its contract. Assumes nothing.
use Rattle.day_sums.proofs.Seeks.{seek-none, seek_found, seek-within}
use borrow.Author.Rules.{rules}
use Rattle.day_sums.proofs.seek_noted.Goals as goal

pub returns-in-None : goal.returns-in-None
returns-in-None c = record { is = search seek-none; within = search rules }

pub returns-in-Some : goal.returns-in-Some
returns-in-Some c = record { is = search seek_found; within = search seek-within }
