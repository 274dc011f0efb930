-- `whose::behind_under` meets its contract. Assumes nothing.
use Rattle.lines.proofs.Ends.{line-room}
use Rattle.day.proofs.Find.{line-less}
use Rattle.whose.proofs.Found.{unders}
use borrow.Author.Rules.{rules}
use Rattle.whose.proofs.behind_under.Goals as goal

pub returns-then-e-file : goal.returns-then-e-file
returns-then-e-file c = search unders

pub returns-then-not-is_under : goal.returns-then-not-is_under
returns-then-not-is_under c = search unders

pub overflow_add-at : goal.overflow_add-at
overflow_add-at c = search (line-room, rules)

pub loop-from-smaller : goal.loop-from-smaller
loop-from-smaller c = search line-less

pub loop-from-preserved : goal.loop-from-preserved
loop-from-preserved c = (search line-room, search unders)
