-- `answer_lines::numbers::number_behind` meets its contract. Assumes nothing.
use Rattle.page.proofs.Filling.{filled-sign}
use Rattle.answer_lines.proofs.numbers.number_behind.Goals as goal

pub returns : goal.returns
returns c = search filled-sign
