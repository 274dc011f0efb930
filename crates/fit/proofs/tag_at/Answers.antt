-- `fit::tag_at` meets its contract. Assumes nothing.
use Rattle.fit.specs.Tags.{tag_from}
use mathlib.Core.Path.{refl}
use Rattle.fit.proofs.tag_at.Goals as goal

pub returns : goal.returns
unfolding tag_from
returns c = refl
