-- `day::head::fill_top` meets its contract. Assumes nothing.
use Rattle.day.proofs.Top.{top-values, top-tag, top-update, top-load}
use borrow.Author.Rules.{rules}
use Rattle.day.proofs.head.fill_top.Goals as goal

pub returns : goal.returns
returns c = record { values = search top-values; date = search rules; tag = search top-tag; update = search top-update; load = search top-load }
