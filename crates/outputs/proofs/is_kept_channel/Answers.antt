-- `outputs::is_kept_channel` meets its contract. Assumes nothing.
use mathlib.Core.Path.{◌∙◌}
use borrow.Author.Tests.{ne_eqb}
use Rattle.outputs.proofs.Channels.{kept-other, kept-channel}
use Rattle.outputs.proofs.is_kept_channel.Goals as goal

pub returns-then-key-eq12 : goal.returns-then-key-eq12
returns-then-key-eq12 c = search kept-channel

pub returns-else-key-eq12 : goal.returns-else-key-eq12
returns-else-key-eq12 c = ne_eqb _ _ c.if-key-eq12.false ∙ kept-other _ c.if-key-eq12.false
