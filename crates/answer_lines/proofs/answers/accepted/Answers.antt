-- `answer_lines::answers::accepted` meets its contract. Assumes nothing.
use Rattle.answer_lines.proofs.Answered.{line-accepted}
use Rattle.answer_lines.proofs.answers.accepted.Goals as goal

pub returns : goal.returns
returns c = search line-accepted
