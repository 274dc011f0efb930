-- `month::read_checked` meets its contract. Assumes nothing.
use Rattle.month.proofs.Ways.{held, none-asked, refused-so, all_fit, read-so}
use native.Mathlib.Omega.{arith}
use Rattle.month.proofs.read_checked.Goals as goal

pub returns-then-last-first : goal.returns-then-last-first
returns-then-last-first c = none-asked _ _ _ _ c.if-last-first.true

pub returns-then-number-ne0 : goal.returns-then-number-ne0
returns-then-number-ne0 c = refused-so _ _ _ _ c.requires.0 _ _ _ (held _ _ _ _ _ c.shortest-room.ensures c.shortest-places.ensures) c.fault-number.ensures _ c.if-number-ne0.true c.bare.ensures

pub fill_days-f-requires : goal.fill_days-f-requires
fill_days-f-requires c = all_fit _ _ _ _ c.requires.0 _ _ _ (held _ _ _ _ _ c.shortest-room.ensures c.shortest-places.ensures) c.fault-number.ensures _ c.if-number-ne0.false (omega (arith, c.if-last-first.false)) c.requires.1

pub returns : goal.returns
returns c = read-so _ _ _ _ _ _ _ c.fill_days-f.ensures
