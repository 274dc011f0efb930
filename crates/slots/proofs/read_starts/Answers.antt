-- `slots::read_starts` meets its contract: an offset stands at place 18 of a slot (`starts-are`). Assumes nothing.
use Rattle.slots.proofs.Fields.{starts-are}
use mathlib.Core.Path.{◌∙◌}
use Rattle.slots.proofs.read_starts.Goals as goal

pub returns : goal.returns
returns c = c.read_fields.ensures ∙ starts-are _ _ _
