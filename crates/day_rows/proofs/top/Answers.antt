-- `day_rows::top` meets its contract. Assumes nothing.
use Rattle.day_rows.proofs.Showing.{top-put}
use Rattle.day_rows.proofs.top.Goals as goal

pub returns : goal.returns
returns c = search top-put
