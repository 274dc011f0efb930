-- `answer_lines::days::intervals_read` meets its contract. Assumes nothing.
use Rattle.answer_lines.proofs.Answered.{read-intervals}
use borrow.Author.Rules.{rules}
use Rattle.answer_lines.proofs.days.intervals_read.Goals as goal

pub returns-in-Ok : goal.returns-in-Ok
returns-in-Ok c = search (read-intervals, rules)
