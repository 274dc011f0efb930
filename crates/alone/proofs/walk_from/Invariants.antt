-- `alone::walk_from` meets its contract. Assumes nothing.
use Prim.Native.Nat.{ℕ, ◌-◌}
use mathlib.Core.Path.{◌≡◌}
use mathlib.Core.List.{List}
use lib.ListN.{length}
use Rattle.alone.specs.Walk.{left_of, Walking}
use Rattle.alone.proofs.walk_from.Given as goal

abbrev pub invariant-loop-found : goal.invariant-loop-found
invariant-loop-found l = Walking l.memory l.start l.t × ((xs : List ℕ) → left_of l.memory l.start xs l.initial.t ≡ left_of l.memory l.start xs l.t)

abbrev pub decreases-loop-found : goal.decreases-loop-found
decreases-loop-found l = length l.memory - l.t.at
