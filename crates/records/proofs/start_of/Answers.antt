-- `records::start_of` meets its contract. Assumes nothing.
use Rattle.records.proofs.Lookup.{start-here, start-within, start-down, start_none}
use borrow.Author.Rules.{rules}
use Rattle.records.proofs.start_of.Goals as goal

pub returns-then-crlf_before : goal.returns-then-crlf_before
returns-then-crlf_before c = record { is = search start-here; within = search start-within }

pub loop-before-preserved : goal.loop-before-preserved
loop-before-preserved c = search start-down

pub returns : goal.returns
returns c = record { is = search start_none; within = search rules }
