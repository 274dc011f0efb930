-- `whose::minutes_of` meets its contract. Assumes nothing.
use Prim.Native.Nat.{◌≤◌}
use Rattle.whose.proofs.Found.{minutes-small, minutes-are}
use borrow.Author.Rules.{rules}
use Rattle.whose.proofs.minutes_of.Goals as goal

pub overflow_cast-result : goal.overflow_cast-result
overflow_cast-result c = let h : c.unwrap_or.result ≤ 30 = search minutes-small in search rules

pub returns : goal.returns
returns c = search minutes-are
