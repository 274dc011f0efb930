-- `moving::move_piece` meets its contract: the bytes stored are those that were read, through a list of their own (`moved-through`). Assumes nothing.
use Rattle.moving.proofs.Moves.{moved-through}
use borrow.Author.Rules.{rules}
use Rattle.moving.proofs.move_piece.Goals as goal

pub returns : goal.returns
returns c = search (moved-through, rules)
