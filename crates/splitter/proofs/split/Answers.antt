-- `splitter::split` meets its contract. Assumes nothing.
use Rattle.splitter.proofs.Ways.{split-27, split-15, keys-enough, shares-enough, split-25, split-ready, split-shared}
use mathlib.Core.Path.{ap}
use mathlib.Core.Bool.{not}
use Rattle.splitter.proofs.split.Goals as goal

pub returns-then-total-gt-LARGEST : goal.returns-then-total-gt-LARGEST
returns-then-total-gt-LARGEST c = search split-27

pub returns-then-not-are_enough : goal.returns-then-not-are_enough
returns-then-not-are_enough c = search split-15

pub are_fit-requires : goal.are_fit-requires
are_fit-requires c = (search keys-enough, search shares-enough)

pub returns-then-not-are_fit : goal.returns-then-not-are_fit
returns-then-not-are_fit c = search split-25

pub split_fit-requires : goal.split_fit-requires
split_fit-requires c = split-ready _ _ _ c.are_enough.ensures (ap not c.if-not-are_enough.false) _ c.if-total-gt-LARGEST.false c.are_fit.ensures (ap not c.if-not-are_fit.false)

pub returns : goal.returns
returns c = search split-shared
