-- `answer_lines::answers::refusal` meets its contract. Assumes nothing.
use Rattle.answer_lines.proofs.Answered.{line_refused}
use Rattle.answer_lines.proofs.answers.refusal.Goals as goal

pub returns : goal.returns
returns c = search line_refused
