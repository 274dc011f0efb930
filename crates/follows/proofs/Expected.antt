-- The number in the code's state and what it stands for: each test of a number is a test of that. Assumes nothing.
use Prim.Native.Nat.{ℕ, zero, suc, ◌≤◌, ◌<◌}
use mathlib.Core.Path.{◌≡◌, refl, sym, ◌∙◌}
use mathlib.Core.Bool.{Bool, true, false, cond, not, ◌&&◌, ◌||◌}
use native.Mathlib.Omega.{arith}
use lib.Dec.{eqb, leb}
use borrow.Author.Tests.{ne_eqb, le-leb, lt-leb}
use Rattle.ground.proofs.Tests.{and-false}
use Rattle.format.specs.Order.{Expected, the100, first200, first300, under_day, under_varied, behind500, first250, behind250, behind550, the_end, may_come, in_day, in_varied, is_end}
use Rattle.follows.specs.Tests.{expected_as, between}

numbers : (P : ℕ → Type 0) → P 0 → P 1 → P 2 → P 3 → P 4 → P 5 → P 6 → P 7 → P 8 → ((x : ℕ) → 9 ≤ x → P x) → (x : ℕ) → P x
numbers P a b c d e f g h i j zero = a
numbers P a b c d e f g h i j (suc zero) = b
numbers P a b c d e f g h i j (suc (suc zero)) = c
numbers P a b c d e f g h i j (suc (suc (suc zero))) = d
numbers P a b c d e f g h i j (suc (suc (suc (suc zero)))) = e
numbers P a b c d e f g h i j (suc (suc (suc (suc (suc zero))))) = f
numbers P a b c d e f g h i j (suc (suc (suc (suc (suc (suc zero)))))) = g
numbers P a b c d e f g h i j (suc (suc (suc (suc (suc (suc (suc zero))))))) = h
numbers P a b c d e f g h i j (suc (suc (suc (suc (suc (suc (suc (suc zero)))))))) = i
numbers P a b c d e f g h i j (suc (suc (suc (suc (suc (suc (suc (suc (suc x))))))))) = j (suc (suc (suc (suc (suc (suc (suc (suc (suc x))))))))) (omega arith)

-- a test of the number that is the test of what it stands for
module _ (g : ℕ → Bool) (f : Expected → Bool) where
  tested : g 0 ≡ f the100 → g 1 ≡ f first200 → g 2 ≡ f first300 → g 3 ≡ f under_day → g 4 ≡ f under_varied → g 5 ≡ f behind500 → g 6 ≡ f first250
      → g 7 ≡ f behind250 → g 8 ≡ f behind550 → ((x : ℕ) → 9 ≤ x → g x ≡ f the_end) → (x : ℕ) → g x ≡ f (expected_as x)
  unfolding expected_as
  tested a b c d e i j k l m =
      numbers (λ x. g x ≡ f (expected_as x)) a b c d e i j k l
      (λ x h. rw (
        ne_eqb x 0 (λ z. omega arith),
        ne_eqb x 1 (λ z. omega arith),
        ne_eqb x 2 (λ z. omega arith),
        ne_eqb x 3 (λ z. omega arith),
        ne_eqb x 4 (λ z. omega arith),
        ne_eqb x 5 (λ z. omega arith),
        ne_eqb x 6 (λ z. omega arith),
        ne_eqb x 7 (λ z. omega arith),
        ne_eqb x 8 (λ z. omega arith),
      ) (m x h))

beyond : (a b x : ℕ) → b < x → between a b x ≡ false
beyond a b x h = rw (lt-leb x b h) (and-false (leb a x))

pub is-100 : (x : ℕ) → eqb x 0 ≡ may_come (expected_as x) 100
is-100 = tested (λ x. eqb x 0) (λ y. may_come y 100) refl refl refl refl refl refl refl refl refl (λ x h. ne_eqb x 0 (λ z. omega arith))

pub is-200 : (x : ℕ) → (eqb x 1 || between 3 5 x) ≡ may_come (expected_as x) 200
is-200 =
    tested (λ x. eqb x 1 || between 3 5 x) (λ y. may_come y 200) refl refl refl refl refl refl refl refl refl
    (λ x h. rw (ne_eqb x 1 (λ z. omega arith)) (beyond 3 5 x (omega arith)))

pub is-300 : (x : ℕ) → between 2 5 x ≡ may_come (expected_as x) 300
is-300 = tested (between 2 5) (λ y. may_come y 300) refl refl refl refl refl refl refl refl refl (λ x h. beyond 2 5 x (omega arith))

pub is-400 : (x : ℕ) → eqb x 4 ≡ in_varied (expected_as x)
is-400 = tested (λ x. eqb x 4) in_varied refl refl refl refl refl refl refl refl refl (λ x h. ne_eqb x 4 (λ z. omega arith))

pub is-500 : (x : ℕ) → between 3 5 x ≡ in_day (expected_as x)
is-500 = tested (between 3 5) in_day refl refl refl refl refl refl refl refl refl (λ x h. beyond 3 5 x (omega arith))

pub is-250 : (x : ℕ) → between 6 8 x ≡ may_come (expected_as x) 250
is-250 = tested (between 6 8) (λ y. may_come y 250) refl refl refl refl refl refl refl refl refl (λ x h. beyond 6 8 x (omega arith))

pub is-550 : (x : ℕ) → eqb x 7 ≡ may_come (expected_as x) 550
is-550 = tested (λ x. eqb x 7) (λ y. may_come y 550) refl refl refl refl refl refl refl refl refl (λ x h. ne_eqb x 7 (λ z. omega arith))

pub is-900 : (x : ℕ) → (between 3 5 x || between 7 8 x) ≡ may_come (expected_as x) 900
is-900 =
    tested (λ x. between 3 5 x || between 7 8 x) (λ y. may_come y 900) refl refl refl refl refl refl refl refl refl
    (λ x h. rw (beyond 3 5 x (omega arith)) (beyond 7 8 x (omega arith)))

-- a 200's first 300 is expected
pub is-first : (x : ℕ) → eqb x 2 ≡ (may_come (expected_as x) 300 && not (in_day (expected_as x)))
is-first = tested (λ x. eqb x 2) (λ y. may_come y 300 && not (in_day y)) refl refl refl refl refl refl refl refl refl (λ x h. ne_eqb x 2 (λ z. omega arith))

-- the end, and no other of the numbers up to it
pub is-end : (x : ℕ) → x ≡ 9 → is_end (expected_as x) ≡ true
unfolding expected_as
is-end x e = rw e

pub not_end : (x : ℕ) → x ≤ 9 → (x ≡ 9 → ⊥) → is_end (expected_as x) ≡ false
not_end x h n = sym (tested (leb 9) is_end refl refl refl refl refl refl refl refl refl (λ y l. le-leb 9 y l) x) ∙ lt-leb 9 x (omega arith)

pub under-as : (b : Bool) → expected_as (cond b 4 3) ≡ cond b under_varied under_day
unfolding expected_as
under-as true = refl
under-as false = refl

pub under-known : {x : ℕ} (b : Bool) → x ≡ cond b 4 3 → x ≤ 9
under-known true e = omega arith
under-known false e = omega arith
