-- `order::State::on_250` meets its contract. Assumes nothing.
use Rattle.order.proofs.Late.{kept-closed}
use Rattle.order.proofs.Late.{on250-7, on250-7-current, on250-on}
use borrow.Author.Rules.{rules}
use native.Mathlib.Omega.{arith}
use mathlib.Core.Path.{ap}
use mathlib.Core.Bool.{not}
use Rattle.order.proofs.State.on_250.Goals as goal

pub returns-then-not-across : goal.returns-then-not-across
returns-then-not-across c = (search on250-7, search rules)

pub returns-then-not-across-2 : goal.returns-then-not-across-2
returns-then-not-across-2 c = (on250-7-current _ _ _ _ _ c.args.self _ c.requires.1 c.requires.2 c.tag_at-s.ensures c.across.ensures _ (ap not c.if-not-across.false) c.tag_at-t.ensures c.across-2.ensures (ap not c.if-not-across-2.true), search rules)

pub returns : goal.returns
returns c = let k = c.requires.0 in let h = c.requires.1 in (on250-on _ _ _ _ _ c.args.self _ h c.requires.2 c.tag_at-s.ensures c.across.ensures _ (ap not c.if-not-across.false) c.tag_at-t.ensures c.across-2.ensures _ (ap not c.if-not-across-2.false) c.closed.ensures, kept-closed _ _ c.closed.ensures (omega arith) (λ z. omega arith) (omega arith) (omega arith) (omega arith) (omega arith))
