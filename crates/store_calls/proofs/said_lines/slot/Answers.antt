-- `store_calls::said_lines::slot` meets its contract. Assumes nothing.
use Rattle.std.proofs.Common.{Ok}
use mathlib.Core.Path.{ap, ◌∙◌}
use Rattle.store_calls.proofs.Shown.{used-slot, no_slot, free-slot}
use Rattle.store_calls.proofs.said_lines.slot.Goals as goal

pub returns-in-None : goal.returns-in-None
returns-in-None c = let e = c.in-Ok.is ∙ ap Ok c.in-None.is in search free-slot

pub returns-in-Some : goal.returns-in-Some
returns-in-Some c = let e = c.in-Ok.is ∙ ap Ok c.in-Some.is in search used-slot

pub returns-in-Err : goal.returns-in-Err
returns-in-Err c = search no_slot
