-- `moving::move_bytes` meets its contract: down, up, and where the bytes stay (`moved_same`). Each way is right by the test that led to it. Assumes nothing.
use Rattle.moving.proofs.Moves.{moved_same}
use Rattle.moving.proofs.move_bytes.Goals as goal

pub returns-else-a-b : goal.returns-else-a-b
returns-else-a-b c = search moved_same
