-- `eights::word` meets its contract. Assumes nothing.
use Rattle.std.proofs.Common.{rules}
use Rattle.eights.proofs.Words.{byte_fits, word-joined}
use Rattle.eights.proofs.word.Goals as goal

pub overflow_cast-result : goal.overflow_cast-result
overflow_cast-result c = search (byte_fits, c.type_inv.t)

pub overflow_cast-result-2 : goal.overflow_cast-result-2
overflow_cast-result-2 c = search (byte_fits, c.type_inv.t)

pub overflow_cast-result-3 : goal.overflow_cast-result-3
overflow_cast-result-3 c = search (byte_fits, c.type_inv.t)

pub overflow_cast-result-4 : goal.overflow_cast-result-4
overflow_cast-result-4 c = search (byte_fits, c.type_inv.t)

pub overflow_cast-result-5 : goal.overflow_cast-result-5
overflow_cast-result-5 c = search (byte_fits, c.type_inv.t)

pub overflow_cast-result-6 : goal.overflow_cast-result-6
overflow_cast-result-6 c = search (byte_fits, c.type_inv.t)

pub overflow_cast-result-7 : goal.overflow_cast-result-7
overflow_cast-result-7 c = search (byte_fits, c.type_inv.t)

pub overflow_cast-result-8 : goal.overflow_cast-result-8
overflow_cast-result-8 c = search (byte_fits, c.type_inv.t)

pub returns : goal.returns
returns c = let p = word-joined _ (search rules) c.type_inv.t in record { is = p.0; bytes = p.1 }
