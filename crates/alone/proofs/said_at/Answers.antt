-- `alone::said_at` meets its contract. Assumes nothing.
use Rattle.day.proofs.Top.{top-update, top-load}
use borrow.Author.Rules.{rules}
use Rattle.alone.proofs.said_at.Goals as goal

pub returns : goal.returns
returns c = record { date = search rules; update = search top-update; load = search top-load }
