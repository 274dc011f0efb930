-- `measures::axis::most_of` meets its contract. Assumes nothing.
use Rattle.std.proofs.Common.{◌≡◌, take, max}
use Rattle.std.specs.List.{fold}
use Rattle.measures.proofs.axis.most_of.Given as goal

abbrev pub invariant-loop-v : goal.invariant-loop-v
invariant-loop-v l = l.most ≡ fold (λ y x. max y x) 0 (take l.v-index l.first)
