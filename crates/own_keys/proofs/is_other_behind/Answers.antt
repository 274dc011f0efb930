-- `own_keys::is_other_behind` meets its contract. Assumes nothing.
use native.Mathlib.Omega.{arith}
use Rattle.store.proofs.Walks.{each-stops, each_all}
use Rattle.own_keys.proofs.Others.{dates-long, passed_first, passed-next}
use borrow.Author.Rules.{rules}
use Rattle.own_keys.proofs.is_other_behind.Goals as goal

pub next_of_date-j-requires : goal.next_of_date-j-requires
next_of_date-j-requires c = (search dates-long, search rules, search rules)

pub loop-j-init : goal.loop-j-init
loop-j-init c = (search passed_first, search rules)

pub returns-then-not-is_free_or_other : goal.returns-then-not-is_free_or_other
returns-then-not-is_free_or_other c = search each-stops

pub next_of_date-j-requires-in-loop-j : goal.next_of_date-j-requires-in-loop-j
next_of_date-j-requires-in-loop-j c = (search dates-long, search rules, omega arith)

pub loop-j-preserved : goal.loop-j-preserved
loop-j-preserved c = (search passed-next, search rules)

pub returns : goal.returns
returns c = search each_all
