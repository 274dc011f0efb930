-- `verdict::accepted` meets its contract. Assumes nothing.
use Rattle.phrase.proofs.Chained.{filled-four}
use Rattle.verdict.specs.Verdicts.{accepted_text}
use Rattle.verdict.proofs.accepted.Goals as goal

pub returns : goal.returns
unfolding accepted_text
returns c = search filled-four
