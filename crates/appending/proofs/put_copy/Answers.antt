-- `appending::put_copy` meets its contract. Assumes nothing.
use Rattle.appending.proofs.Written.{copied}
use borrow.Author.Rules.{rules}
use native.Mathlib.Omega.{arith}
use Rattle.appending.proofs.put_copy.Goals as goal

pub returns : goal.returns
returns c = copied c.args.memory.now (omega arith) (omega arith) (omega arith) c.place-at.ensures c.place.ensures c.args.first c.put_number.ensures (search rules) (λ i. search rules) c.move_bytes.ensures c.put_number-2.ensures
