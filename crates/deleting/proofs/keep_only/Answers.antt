-- `deleting::keep_only` meets its contract. Assumes nothing.
use Prim.Native.Nat.{◌≤◌}
use Rattle.deleting.proofs.Ways.{end-most, kept-only}
use borrow.Author.Rules.{rules}
use Rattle.deleting.proofs.keep_only.Goals as goal

pub overflow_cast-end : goal.overflow_cast-end
overflow_cast-end c = let z : c.settle-end.result ≤ c.args.h.size = search end-most in search rules

pub returns : goal.returns
returns c = search kept-only
