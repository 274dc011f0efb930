-- `marks::put_mark` meets its contract. Assumes nothing.
use Rattle.marks.proofs.OneMark.{fit-inside, quality-room, first-comma-room, reason-room, second-comma-room, description-room}
use Rattle.fit.specs.Tags.{mark_of}
use Rattle.format.specs.Block.{mark_text}
use Rattle.ground.proofs.Room.{put_then}
use Rattle.marks.proofs.put_mark.Goals as goal

pub put_quality-p1-requires : goal.put_quality-p1-requires
put_quality-p1-requires c = search quality-room

pub put_byte-p2-requires : goal.put_byte-p2-requires
put_byte-p2-requires c = search first-comma-room

pub put_reason-p3-requires : goal.put_reason-p3-requires
put_reason-p3-requires c = search reason-room

pub put_byte-p4-requires : goal.put_byte-p4-requires
put_byte-p4-requires c = search second-comma-room

pub put_part-requires : goal.put_part-requires
put_part-requires c = (search fit-inside, search description-room)

pub returns : goal.returns
unfolding mark_text mark_of
returns c = put_then (put_then (put_then (put_then c.put_quality-p1.ensures c.put_byte-p2.ensures) c.put_reason-p3.ensures) c.put_byte-p4.ensures) c.put_part.ensures
