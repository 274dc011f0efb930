-- A loop that reads digits one after the other, and the number that they write.
-- Assumes nothing.
use mathlib.Core.Path.{◌≡◌, refl}
use mathlib.Core.Bool.{true, false}
use mathlib.Core.List.{List, [], ◌∷◌}
use Prim.Native.Nat.{ℕ, suc, ◌+◌, ◌-◌, ◌*◌, ◌^◌, ◌≤◌, ◌<◌}
use native.Mathlib.Nat.{add-zero, zero-add, add-suc, suc-add, pow-suc, pow-le-pow_right}
use native.Mathlib.Numerals.{add-one}
use native.Mathlib.Omega.{arith}
use lib.ListN.{length, get_or, drop}
use lib.Dec.{leb, lit≤}
use mir.Val.{Fits}
use mir.Syntax.{w64}
use borrow.Author.Tests.{leb-true}
use Rattle.ground.specs.Lists.{all}
use Rattle.ground.specs.Digits.{is_digit, decimal_from, decimal}
use Rattle.ground.proofs.Tests.{tests, and-true}
use Rattle.ground.proofs.Lists.{rest, Passed, passed_none, passed-more}

pub digit-is : (b : ℕ) → 48 ≤ b → b ≤ 57 → true ≡ is_digit b
unfolding is_digit
digit-is b l h = search tests

pub digit_low : (b : ℕ) → b < 48 → false ≡ is_digit b
unfolding is_digit
digit_low b h = search tests

pub digit-high : (b : ℕ) → 57 < b → false ≡ is_digit b
unfolding is_digit
digit-high b h = search tests

-- the bytes before i are digits, and v is the number that they write
pub record Read (s : List ℕ) (v i : ℕ) : Type 0 where
  pub below : v < 10 ^ i
  pub passed : Passed is_digit s i
  pub number : decimal_from v (drop i s) ≡ decimal s

pub read_none : (s : List ℕ) → Read s 0 0
read_none s = record { below = omega arith; passed = passed_none is_digit s; number = refl }

pub read_more : (s : List ℕ) (v i : ℕ) → i < length s → 48 ≤ get_or s i 0 → get_or s i 0 ≤ 57 → Read s v i → Read s (v * 10 + (get_or s i 0 - 48)) (i + 1)
read_more s v i h lo hi r =
    record {
      below = rw (add-one, pow-suc) (omega (arith, r.below));
      passed = passed-more is_digit s i h (digit-is _ lo hi) refl r.passed;
      number = rw (rest s i h) at r.number;
    }

pub pow_below : (v i n : ℕ) → v < 10 ^ i → i ≤ n → v < 10 ^ n
pow_below v i n h le = omega (arith, pow-le-pow_right {n = 10} (lit≤ tt) le)

-- ten times a number read so far, and a digit more, fit
module _ (s : List ℕ) (v i : ℕ) (h : i < length s) (l : length s ≤ 14) (r : Read s v i) where
  pub read_fits : Fits w64 (v * 10)
  read_fits = omega (arith, pow_below v i 13 r.below (omega arith))

  pub read-fits-digit : {d : ℕ} → d ≤ 57 → Fits w64 (v * 10 + (d - 48))
  read-fits-digit q = omega (arith, pow_below v i 13 r.below (omega arith))

decimal-from : (s : List ℕ) (v i : ℕ) → all is_digit s ≡ true → v < 10 ^ i → decimal_from v s < 10 ^ (i + length s)
unfolding is_digit
decimal-from [] v i t h = rw add-zero h
decimal-from (b ∷ s) v i t h =
    let e = and-true (is_digit b) (all is_digit s) t in
    let d : b ≤ 57 = leb-true b 57 (and-true (leb 48 b) (leb b 57) e.0).1 in
    rw (add-suc, ← suc-add) (decimal-from s (v * 10 + (b - 48)) (suc i) e.1 (rw pow-suc (omega arith)))

-- a number of so many digits is below that power of ten
pub decimal-below : (s : List ℕ) → all is_digit s ≡ true → decimal s < 10 ^ length s
decimal-below s t = rw zero-add at (decimal-from s 0 0 t (lit≤ tt))
