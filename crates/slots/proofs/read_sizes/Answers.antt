-- `slots::read_sizes` meets its contract: a length stands at place 22 of a slot (`sizes-are`). Assumes nothing.
use Rattle.slots.proofs.Fields.{sizes-are}
use mathlib.Core.Path.{◌∙◌}
use Rattle.slots.proofs.read_sizes.Goals as goal

pub returns : goal.returns
returns c = c.read_fields.ensures ∙ sizes-are _ _ _
