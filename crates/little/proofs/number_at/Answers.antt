-- `little::number_at` meets its contract: the piece has at most the bytes that are asked for (`piece-short`), and the number is theirs. Assumes nothing.
use Rattle.little.proofs.Numbers.{piece-short, number-there}
use native.Mathlib.Omega.{arith}
use Rattle.little.proofs.number_at.Goals as goal

pub number_in-requires : goal.number_in-requires
number_in-requires c = omega (arith, piece-short c.args.m.now c.piece_at.result.now c.args.at c.args.k c.piece_at.ensures)

pub returns : goal.returns
returns c = let p = number-there c.args.m.now _ c.args.at _ c.piece_at.ensures (c.number_in.ensures.is, c.number_in.ensures.small) in record { is = p.0; small = p.1 }
