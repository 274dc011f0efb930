-- `putting::put_block` meets its contract. Assumes nothing.
use Rattle.putting.proofs.Ways.{put-18, put-19, live-within, put-20, addable, enterable, put-done, bytes-are}
use borrow.Author.Rules.{rules}
use Rattle.putting.proofs.put_block.Goals as goal

pub returns-then-is_kept_since : goal.returns-then-is_kept_since
returns-then-is_kept_since c = search put-18

pub returns-then-h-s : goal.returns-then-h-s
returns-then-h-s c = search put-19

pub overflow_sub-size : goal.overflow_sub-size
overflow_sub-size c = search live-within

pub returns-then-size-live : goal.returns-then-size-live
returns-then-size-live c = put-20 c.requires c.find_slot-i.ensures c.is_kept_since.ensures c.if-is_kept_since.false c.slot_for-s.ensures c.if-h-s.false c.set_free-map.ensures c.live_bytes-live.ensures c.if-size-live.true c.bare-then-size-live.ensures

pub put_there-requires : goal.put_there-requires
put_there-requires c = (addable c.requires c.find_slot-i.ensures c.is_kept_since.ensures c.if-is_kept_since.false c.slot_for-s.ensures c.if-h-s.false c.set_free-map.ensures c.live_bytes-live.ensures c.if-size-live.false, bytes-are c.requires, enterable c.requires c.find_slot-i.ensures c.is_kept_since.ensures c.if-is_kept_since.false c.slot_for-s.ensures c.if-h-s.false c.set_free-map.ensures c.live_bytes-live.ensures c.if-size-live.false (search rules))

pub returns : goal.returns
returns c = put-done c.requires c.find_slot-i.ensures c.is_kept_since.ensures c.if-is_kept_since.false c.slot_for-s.ensures c.if-h-s.false c.set_free-map.ensures c.live_bytes-live.ensures c.if-size-live.false c.put_there.ensures
