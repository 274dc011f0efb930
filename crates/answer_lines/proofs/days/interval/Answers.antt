-- `answer_lines::days::interval` meets its contract. Assumes nothing.
use Rattle.answer_lines.proofs.Listed.{interval-put}
use Rattle.answer_lines.proofs.days.interval.Goals as goal

pub returns : goal.returns
returns c = search interval-put
