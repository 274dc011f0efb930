-- What is rounded off: the remainders add up to what is left over times the weights' sum, so no more is left over than there are remainders above 0. Assumes nothing.
use Prim.Native.Nat.{ℕ, ◌+◌, ◌*◌, ◌/◌, ◌%◌, ◌≤◌, ◌<◌}
use mathlib.Core.Path.{◌≡◌, ap, ◌∙◌}
use mathlib.Core.List.{List, [], ◌∷◌, map}
use native.Mathlib.Nat.{div-add-mod', mod-lt, le_of_mul-le-mul_right}
use native.Mathlib.Omega.{arith}
use lib.Dec.{ltb}
use borrow.Author.Tests.{lt-ltb, le-ltb}
use Rattle.ground.specs.Lists.{sum}
use Rattle.ground.proofs.Cases.{split}
use Rattle.shares.specs.Shares.{one, count, floors, remainders, leftover}

module _ (t s : ℕ) where
  -- rounded parts times the divisor, and remainders, are the whole
  balance : (ws : List ℕ) → sum (map (λ (w : ℕ). t * w / s) ws) * s + sum (map (λ (w : ℕ). t * w % s) ws) ≡ t * sum ws
  balance [] = omega arith
  balance (w ∷ ws) = let a = balance ws in let b = div-add-mod' (t * w) s in omega arith

  -- each remainder is at most the divisor, and those that are 0 add nothing
  bounded : (ws : List ℕ) → 0 < s → sum (map (λ (w : ℕ). t * w % s) ws) ≤ count (ltb 0) (map (λ (w : ℕ). t * w % s) ws) * s
  unfolding count
  bounded [] h = omega arith
  bounded (w ∷ ws) h =
      let a = bounded ws h in
      let b = mod-lt (t * w) h in
      split (t * w % s) 0
      (λ g. let d = ap one (le-ltb 0 (t * w % s) g) in omega arith)
      (λ g. rw (lt-ltb 0 (t * w % s) g) (omega arith))

-- the rounded parts are no more than the total
pub floors-most : (t : ℕ) (ws : List ℕ) → 0 < sum ws → sum (floors t ws) ≤ t
unfolding floors
floors-most t ws h = le_of_mul-le-mul_right {k = sum ws} (omega (arith, balance t (sum ws) ws)) h

remain : (s c f r d : ℕ) → f * s + r ≡ (f + d) * s → r ≤ c * s → d * s ≤ c * s
remain s c f r d e g = omega arith

-- no more is left over than there are remainders above 0
pub leftover-most : (t : ℕ) (ws : List ℕ) → 0 < sum ws → leftover t ws ≤ count (ltb 0) (remainders t ws)
unfolding floors remainders leftover
leftover-most t ws h =
    let m : t ≡ sum (floors t ws) + leftover t ws = omega (arith, floors-most t ws h) in
    le_of_mul-le-mul_right {k = sum ws}
    (remain (sum ws) (count (ltb 0) (remainders t ws)) (sum (floors t ws)) (sum (remainders t ws)) (leftover t ws)
    (balance t (sum ws) ws ∙ ap (λ (z : ℕ). z * sum ws) m)
    (bounded t (sum ws) ws h))
    h
