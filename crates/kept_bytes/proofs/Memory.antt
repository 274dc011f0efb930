-- What a call on memory left, by its meaning. Assumes nothing.
use mathlib.Core.Path.{◌≡◌, ap}
use mathlib.Core.List.{List}
use Prim.Native.Nat.{ℕ}
use Rattle.format.specs.Answers.{Answer}
use Rattle.entries.specs.Left.{Left, left}

pub left_is : {a : Answer} {now : List ℕ} {l : Left} → left a now ≡ l → now ≡ l.memory
left_is e = ap (λ (z : Left). z.memory) e
