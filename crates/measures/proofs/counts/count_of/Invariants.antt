-- `measures::counts::count_of` meets its contract. Assumes nothing.
use Rattle.std.proofs.Common.{◌≡◌, ◌≤◌, take, eqb}
use Rattle.std.specs.List.{count_by}
use Rattle.measures.proofs.counts.count_of.Given as goal

abbrev pub invariant-loop-f : goal.invariant-loop-f
invariant-loop-f l = (l.found ≤ l.f-index) × (l.found ≡ count_by (λ b. eqb b l.letter) (take l.f-index l.first))
