-- `replacing::put_block` meets its contract. Assumes nothing.
use Rattle.replacing.proofs.Puts.{put_1, put-15, put-done}
use Rattle.replacing.proofs.put_block.Goals as goal

pub returns-then-kept-more : goal.returns-then-kept-more
returns-then-kept-more c = search put_1

pub returns-then-room-kept : goal.returns-then-room-kept
returns-then-room-kept c = search put-15

pub returns : goal.returns
returns c = search put-done
