-- `store_lines::of_room` meets its contract. Assumes nothing.
use Rattle.store_lines.specs.Lines.{room_text}
use Rattle.page.proofs.Filling.{filled-then}
use Rattle.store_lines.proofs.of_room.Goals as goal

pub returns : goal.returns
unfolding room_text
returns c = search filled-then
