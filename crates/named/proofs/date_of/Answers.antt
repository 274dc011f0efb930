-- `named::date_of` meets its contract. Assumes nothing.
use Rattle.named.proofs.Search.{dashed-within, date-dashed, date-plain}
use borrow.Author.Rules.{rules}
use Rattle.named.proofs.date_of.Goals as goal

pub bounds-word-0 : goal.bounds-word-0
bounds-word-0 c = search (dashed-within, rules)

pub bounds-word-1 : goal.bounds-word-1
bounds-word-1 c = search (dashed-within, rules)

pub bounds-word-2 : goal.bounds-word-2
bounds-word-2 c = search (dashed-within, rules)

pub bounds-word-3 : goal.bounds-word-3
bounds-word-3 c = search (dashed-within, rules)

pub bounds-word-5 : goal.bounds-word-5
bounds-word-5 c = search (dashed-within, rules)

pub bounds-word-6 : goal.bounds-word-6
bounds-word-6 c = search (dashed-within, rules)

pub bounds-word-8 : goal.bounds-word-8
bounds-word-8 c = search (dashed-within, rules)

pub bounds-word-9 : goal.bounds-word-9
bounds-word-9 c = search (dashed-within, rules)

pub returns-then-is_dashed : goal.returns-then-is_dashed
returns-then-is_dashed c = search date-dashed

pub returns : goal.returns
returns c = search date-plain
