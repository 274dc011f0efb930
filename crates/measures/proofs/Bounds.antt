-- No number of the axis is 0 where it divides, and none is too large. Assumes nothing.
use Prim.Native.Nat.{ℕ, zero, suc, ◌+◌, ◌-◌, ◌*◌, ◌/◌, ◌≤◌, ◌<◌, min}
use mathlib.Core.Path.{◌≡◌, refl, sym, ap, ◌∙◌}
use mathlib.Core.Bool.{cond}
use native.Mathlib.Nat.{div-mul-le_self, lt-div-mul-add, div-le_of_le-mul, div-le_self, mul-le-mul_right}
use native.Mathlib.Omega.{arith}
use borrow.Author.Tests.{le-leb, lt-leb, lt-ltb, le-ltb, eq-eqb, ne_eqb}
use lib.Dec.{ltb}
use Rattle.ground.proofs.Cases.{split, same_or}
use Rattle.measures.specs.Axis.{reach_of, step_in, step_from, step_for, steps_for, top_for, height_on, height_of}

-- from 1 up to a most
pub record Within (most x : ℕ) : Type 0 where
  pub low : 1 ≤ x
  pub high : x ≤ most

pub reach-within : (most : ℕ) → Within 9999999999999 (reach_of most)
unfolding reach_of
reach-within most =
    same_or most 0
    (λ e. rw (eq-eqb most 0 e) (record { low = omega arith; high = omega arith }))
    (λ e.
    split most 9999999999999
    (λ h. rw (ne_eqb most 0 e, le-leb most 9999999999999 h) (record { low = omega (arith, e); high = omega arith }))
    (λ h. rw (ne_eqb most 0 e, lt-leb most 9999999999999 h) (record { low = omega arith; high = omega arith })))

pub reach-min : (most r : ℕ) → (most ≡ 0 → ⊥) → r ≡ min most 9999999999999 → r ≡ reach_of most
unfolding reach_of
reach-min most r e q =
    split most 9999999999999
    (λ h. rw (ne_eqb most 0 e, le-leb most 9999999999999 h) (omega arith))
    (λ h. rw (ne_eqb most 0 e, lt-leb most 9999999999999 h) (omega arith))

in_within : (ten reach : ℕ) → Within 4000000000000 ten → Within 20000000000000 (step_in ten reach)
unfolding step_in
in_within ten reach w =
    split reach (ten * 5)
    (λ h. rw (le-leb reach (ten * 5) h) (record { low = w.low; high = omega (arith, w.high) }))
    (λ h.
    split reach (ten * 10)
    (λ k. rw (lt-leb reach (ten * 5) h, le-leb reach (ten * 10) k) (record { low = omega (arith, w.low); high = omega (arith, w.high) }))
    (λ k. rw (lt-leb reach (ten * 5) h, lt-leb reach (ten * 10) k) (record { low = omega (arith, w.low); high = omega (arith, w.high) })))

from-within : (k ten reach : ℕ) → Within 4000000000000 ten → reach ≤ 9999999999999 → Within 20000000000000 (step_from k ten reach)
unfolding step_from
from-within zero ten reach w r = record { low = w.low; high = omega (arith, w.high) }
from-within (suc k) ten reach w r =
    split reach (ten * 25)
    (λ h. rw (le-leb reach (ten * 25) h) (in_within ten reach w))
    (λ h.
    rw (lt-leb reach (ten * 25) h)
    (from-within k (ten * 10) reach (record { low = omega (arith, w.low); high = omega arith }) r))

pub step-within : (most : ℕ) → Within 20000000000000 (step_for most)
unfolding step_for
step-within most = from-within 13 1 (reach_of most) (record { low = omega arith; high = omega arith }) (reach-within most).high

pub top_within : (most : ℕ) → Within 100000000000000 (top_for most)
unfolding top_for steps_for
top_within most =
    let r = reach-within most in
    let s = step-within most in
    record {
      low = omega (arith, r.low, s.low, lt-div-mul-add {a = reach_of most + step_for most - 1} {b = step_for most} (omega (arith, s.low)));
      high = omega (arith, r.high, s.high, div-mul-le_self (reach_of most + step_for most - 1) (step_for most));
    }

-- ---- what the code has in hand

pub reach-small : (most r : ℕ) → r ≡ reach_of most → r ≤ 9999999999999
reach-small most r e = omega (arith, e, (reach-within most).high)

-- a step up to the top
pub multiple-small : (most k s : ℕ) → k ≤ steps_for most → s ≡ step_for most → k * s < 18446744073709551616
unfolding top_for
multiple-small most k s h e = rw e (omega (arith, (top_within most).high, mul-le-mul_right {m = k} {n = steps_for most} (step_for most) h))

pub height-small : (v top l : ℕ) → l ≤ top → l * 30000 / top ≤ 30000
height-small v top l h = div-le_of_le-mul top {m = l * 30000} {n = 30000} (omega arith)

pub steps-small : (most : ℕ) → steps_for most ≤ 100000000000000
unfolding steps_for
steps-small most =
    omega (arith, (reach-within most).high, (step-within most).high, div-le_self (reach_of most + step_for most - 1) (step_for most))

-- ---- what the code works out is what is meant

module _ (most x s : ℕ) (e : x ≡ reach_of most) where
  pub step_is : (r : ℕ) → r ≡ step_from 13 1 x → r ≡ step_for most
  unfolding step_for
  step_is r f = rw (← e) f

  pub steps-is : s ≡ step_for most → (x + s - 1) / s ≡ steps_for most
  unfolding steps_for
  steps-is f = rw (← e, ← f)

pub top-is : (most k s : ℕ) → k ≡ steps_for most → s ≡ step_for most → k * s ≡ top_for most
unfolding top_for
top-is most k s e f = rw (← e, ← f)

lower-min : (v top : ℕ) → min v top ≡ cond (ltb v top) v top
lower-min v top = split top v (λ h. rw (le-ltb v top h) (omega arith)) (λ h. rw (lt-ltb v top h) (omega arith))

pub on-is : (v top l : ℕ) → l ≡ min v top → l * 30000 / top * 10000 ≡ height_on top v
unfolding height_on
on-is v top l e = rw (← (lower-min v top), ← e)

pub height-is : (most v t r : ℕ) → t ≡ top_for most → r ≡ height_on t v → r ≡ height_of most v
unfolding height_of
height-is most v t r e f = rw (← e) f

-- ---- the step, sought with one power of ten a turn

-- k of the 13 turns are over
pub record Seeking (reach ten k : ℕ) : Type 0 where
  pub small : ten ≤ 4000000000000
  pub same : step_from (13 - k) ten reach ≡ step_from 13 1 reach

module _ (reach : ℕ) where
  pub seeking-first : Seeking reach 1 0
  seeking-first = record { small = omega arith; same = refl }

  module _ (ten k : ℕ) (s : Seeking reach ten k) where
    pub seeking-next : k < 13 → ten * 25 < reach → reach ≤ 9999999999999 → Seeking reach (ten * 10) (k + 1)
    unfolding step_from
    seeking-next h l r =
        let j : 13 - k ≡ suc (13 - (k + 1)) = omega arith in
        let t : step_from (suc (13 - (k + 1))) ten reach ≡ step_from (13 - (k + 1)) (ten * 10) reach = rw (lt-leb reach (ten * 25) l) in
        record { small = omega arith; same = sym t ∙ sym (ap (λ (z : ℕ). step_from z ten reach) j) ∙ s.same }

    pub seeking-found : (r : ℕ) → k < 13 → reach ≤ ten * 25 → r ≡ step_in ten reach → r ≡ step_from 13 1 reach
    unfolding step_from
    seeking-found r h l e =
        let j : 13 - k ≡ suc (13 - (k + 1)) = omega arith in
        let t : step_from (suc (13 - (k + 1))) ten reach ≡ step_in ten reach = rw (le-leb reach (ten * 25) l) in
        e ∙ sym t ∙ sym (ap (λ (z : ℕ). step_from z ten reach) j) ∙ s.same

    pub seeking-out : 13 ≤ k → ten ≡ step_from 13 1 reach
    unfolding step_from
    seeking-out h = let j : 13 - k ≡ 0 = omega arith in sym (ap (λ (z : ℕ). step_from z ten reach) j) ∙ s.same
