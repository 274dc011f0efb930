-- `little::piece_at` meets its contract: the part that it takes is the piece, as far as there are bytes (`piece-clipped`). Assumes nothing.
use Rattle.little.proofs.Pieces.{piece-clipped}
use Rattle.little.proofs.piece_at.Goals as goal

pub returns : goal.returns
returns c = search piece-clipped
