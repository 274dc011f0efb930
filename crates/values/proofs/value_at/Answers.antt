-- `values::value_at` meets its contract. Assumes nothing.
use Rattle.values.proofs.Fields.{five-value, five-cut, cut-value, cut-whole}
use Rattle.values.proofs.value_at.Goals as goal

pub thousand-requires : goal.thousand-requires
thousand-requires c = cc

pub returns-then-thousandths : goal.returns-then-thousandths
returns-then-thousandths c = search (five-value, five-cut)

pub returns : goal.returns
returns c = search (cut-value, cut-whole)
