-- `filling::read_at` meets its contract. Assumes nothing.
use Rattle.filling.proofs.Cases.{ready, at-15, at-filled}
use mathlib.Core.Path.{ap}
use mathlib.Core.Bool.{not}
use Rattle.filling.proofs.read_at.Goals as goal

pub returns-then-not-enough : goal.returns-then-not-enough
returns-then-not-enough c = search at-15

pub fill_day-requires : goal.fill_day-requires
fill_day-requires c = ready _ _ _ _ _ _ _ c.enough.ensures c.requires (ap not c.if-not-enough.false)

pub returns : goal.returns
returns c = search at-filled
