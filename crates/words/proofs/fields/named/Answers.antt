-- `words::fields::named` meets its contract. Assumes nothing.
use Rattle.page.proofs.Filling.{filled-as}
use Rattle.words.proofs.fields.named.Goals as goal

pub returns : goal.returns
returns c = search filled-as
