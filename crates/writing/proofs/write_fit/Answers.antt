-- `writing::write_fit` meets its contract. Assumes nothing.
use Rattle.writing.proofs.Refusals.{no_room, placed, placed-room}
use Rattle.writing.proofs.write_fit.Goals as goal

pub returns-then-room-b : goal.returns-then-room-b
returns-then-room-b c = search no_room

pub put_block-requires : goal.put_block-requires
put_block-requires c = record { fit_day = (c.requires.0, c.measure_block-size.ensures.records-are); text_in_bounds = search placed-room }

pub returns : goal.returns
returns c = search placed
