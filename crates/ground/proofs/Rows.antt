-- Tests in a row, `a && b && c`, as code meets them that returns at the first one that fails. Assumes nothing.
use Prim.Native.Nat.{ℕ}
use mathlib.Core.Path.{◌≡◌}
use mathlib.Core.Bool.{Bool, true, false, not, ◌&&◌}
use lib.Dec.{eqb}
use borrow.Author.Tests.{eq-eqb, ne_eqb, not-true, not-false}
use Rattle.ground.proofs.Tests.{and-false}

module _ (x y : Bool) where
  pub fails-before : false ≡ x → false ≡ x && y
  fails-before e = rw (← e)

  pub fails-here : false ≡ y → false ≡ x && y
  fails-here e = rw (← e, and-false)

  pub row_on : true ≡ x → true ≡ y → true ≡ x && y
  row_on e f = rw (← e, ← f)

  pub row_last : {r : Bool} → true ≡ x → r ≡ y → r ≡ x && y
  row_last e f = rw (← e, f)

-- what a function that the code calls told of a test
module _ (x : Bool) {b : Bool} (e : b ≡ x) where
  pub told-holds : b ≡ true → x ≡ true
  told-holds t = rw (← e, t)

  pub told-not : not b ≡ true → false ≡ x
  told-not t = rw (← e, not-true b t)

  pub told_is : not b ≡ false → true ≡ x
  told_is t = rw (← e, not-false b t)

module _ (a b : ℕ) where
  pub equal : a ≡ b → true ≡ eqb a b
  equal e = rw (eq-eqb a b e)

  pub unequal : (a ≡ b → ⊥) → false ≡ eqb a b
  unequal e = rw (ne_eqb a b e)

pub ruleset row = (fails-before, fails-here, row_on, row_last, told-not, told_is, equal, unequal)
