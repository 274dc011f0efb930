-- `refusals::excerpts::mark` meets its contract. Assumes nothing.
use Rattle.refusals.proofs.Cutting.{from-within, mark-put}
use Rattle.refusals.proofs.excerpts.mark.Goals as goal

pub overflow_sub-column : goal.overflow_sub-column
overflow_sub-column c = search from-within

pub returns : goal.returns
returns c = search mark-put
