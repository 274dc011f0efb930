-- A read time is within a day when it is later than its midnight, up to the one that ends it. Assumes nothing.
use Prim.Native.Nat.{ℕ, ◌*◌, ◌/◌, ◌<◌}
use mathlib.Core.Path.{◌≡◌}
use mathlib.Core.Logic.{◌≢◌, ◌↔◌, inl, inr}
use mathlib.Core.Bool.{true}
use native.Mathlib.Omega.{arith}
use borrow.Author.Tests.{eqb-true}
use Rattle.ground.proofs.Cases.{by, same_or}
use Rattle.ground.proofs.Tests.{or-other}
use Rattle.format.specs.Dates.{is_date, day_after, is_time, last_end, is_read_time}
use Rattle.format.proofs.Dates.{after-later}
use Rattle.theorems.specs.Grammar.{Within}
use Rattle.theorems.specs.Calendar.{UpToEnd}
use Rattle.theorems.proofs.Calendar.{last-date, time-date, day-after, day-after-last}

within-upto : (t x : ℕ) → Within t x → UpToEnd t x
within-upto t x (inl (e, n)) = let l = after-later t in (omega arith, omega arith)
within-upto t x (inr e) = let l = after-later t in (omega arith, omega arith)

module _ (t x : ℕ) (h : is_date t ≡ true) (n : x / 1000000 ≢ t) (u : UpToEnd t x) where
  -- a time of a later date is the one that ends the day
  of-later : is_time x ≡ true → x ≡ day_after t * 1000000
  of-later e =
      let d = time-date x e in
      let m = last-date (x / 1000000) d in
      let b : t < x / 1000000 = omega (arith, u.0) in
      let l = (day-after t h (omega arith)).least (x / 1000000) d b in
      omega (arith, u.1)

  of-last : x ≡ last_end → x ≡ day_after t * 1000000
  of-last e =
      same_or t 21991231
      (λ f. let g : day_after t ≡ 22000101 = rw f day-after-last in omega arith)
      (λ f.
      let m = last-date t h in
      let l = last-date (day_after t) (day-after t h (omega arith)).is-date in
      absurd (let z : ⊥ = omega (arith, u.1) in z))

upto-within : (t x : ℕ) → is_date t ≡ true → is_read_time x ≡ true → UpToEnd t x → Within t x
unfolding is_read_time
upto-within t x h r u =
    same_or (x / 1000000) t
    (λ e. inl (e, λ z. omega (arith, u.0)))
    (λ n. inr (by (is_time x) (of-later t x h n u) (λ f. of-last t x h n u (eqb-true _ _ (or-other _ _ r f)))))

-- a read time is within a day exactly when it is later than the day's midnight and not later than the one that ends it
pub within : (t x : ℕ) → is_date t ≡ true → is_read_time x ≡ true → Within t x ↔ UpToEnd t x
within t x h r = (within-upto t x, upto-within t x h r)
