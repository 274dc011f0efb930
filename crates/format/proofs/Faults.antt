-- What a record without a fault says: each test of the chain of faults is false. Assumes nothing.
use Prim.Native.Nat.{ℕ}
use mathlib.Core.Path.{◌≡◌, refl}
use mathlib.Core.Bool.{Bool, true, false}
use native.Mathlib.Omega.{arith}
use Rattle.format.specs.Faults.{◌▹◌, stop, Fault, Fine, Stop}

-- neither of two faults
pub both-fine : (f g : Fault) → (f ▹ g) ≡ Fine → (f ≡ Fine) × (g ≡ Fine)
both-fine Fine g e = (refl, e)
both-fine (Stop x o i) g e = let z : ◌≡◌ {A = ℕ} 0 1 = cc in absurd (omega arith)

-- nothing is wrong
pub stop-fine : (b : Bool) (x o i : ℕ) → stop b x o i ≡ Fine → b ≡ false
stop-fine true x o i e = let z : ◌≡◌ {A = ℕ} 0 1 = cc in absurd (omega arith)
stop-fine false x o i e = refl
