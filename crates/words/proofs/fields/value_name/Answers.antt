-- `words::fields::value_name` meets its contract. Assumes nothing.
use Rattle.words.specs.Names.{value_name}
use Rattle.page.proofs.Filling.{filled-then}
use Rattle.words.proofs.fields.value_name.Goals as goal

pub returns : goal.returns
unfolding value_name
returns c = search filled-then
