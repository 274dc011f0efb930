-- What a record does to n, to the channels and to the days of the state. Assumes nothing.
use Prim.Native.Nat.{ℕ, ◌+◌}
use mathlib.Core.Path.{◌≡◌, refl, sym, ◌∙◌}
use mathlib.Core.Bool.{Bool, true, false, true≢false, false≢true, cond, not, ◌&&◌}
use mathlib.Core.List.{List}
use lib.Dec.{eqb}
use Rattle.format.specs.Records.{version_in, intervals_in}
use Rattle.format.specs.Order.{Expected, first200, first250, under_varied, under_day, may_come, in_day, in_varied, Due, begun, is_varied, on100, on200, on300, on400, on500, on250, on550, on900, after_of}
use Rattle.format.proofs.States.{implied}
use Rattle.passing.specs.Passes.{Counts}
use Rattle.passing.proofs.Fit.{Head, h100, h200, h300, h400, h500, h250, h550, h900}

-- wherever a day may come, n is m: that of the 200 before
abbrev pub Holds : Due → ℕ → Type 0
Holds st m = may_come st.expect 300 ≡ true → st.n ≡ m

pub counts-begun : Counts begun
counts-begun = record { none = λ e. (refl, refl) }

pub holds-begun : (m : ℕ) → Holds begun m
holds-begun m h = absurd (false≢true h)

-- a 200's first 300 is expected
abbrev pub is_first : Expected → Bool
is_first x = may_come x 300 && not (in_day x)

-- behind a record of the kind k with these fields, which may come
pub record Counted (st : Due) (k : ℕ) (fs : List (List ℕ)) : Type 0 where
  pub counts : Counts (after_of st k fs)
  pub days : (after_of st k fs).days ≡ cond (eqb k 300) (st.days + 1) st.days
  pub channels : (after_of st k fs).channels ≡ cond (eqb k 200) (st.channels + 1) (cond (eqb k 250) (st.channels + 1) st.channels)
  pub holds : (m : ℕ) → Holds st m → Holds (after_of st k fs) (cond (eqb k 200) (intervals_in fs) m)
  -- a 200's first 300 is expected behind a 200 only, and its n is then the state's
  pub first : is_first (after_of st k fs).expect ≡ eqb k 200
  pub intervals : (m : ℕ) → cond (is_first (after_of st k fs).expect) (after_of st k fs).n m ≡ cond (eqb k 200) (intervals_in fs) m

-- the 100 is behind
later : (st : Due) → may_come st.expect 100 ≡ false → Counts st
later st l = record { none = λ z. absurd (true≢false (sym z ∙ l)) }

-- no day may come
nowhere : (st : Due) (m : ℕ) → may_come st.expect 300 ≡ false → Holds st m
nowhere st m l h = absurd (true≢false (sym h ∙ l))

-- behind the 100, and behind a 300
record Next (x : Expected) : Type 0 where
  some : may_come x 100 ≡ false
  other : is_first x ≡ false

on-12 : (b : Bool) → Next (cond b first200 first250)
on-12 true = record { some = refl; other = refl }
on-12 false = record { some = refl; other = refl }

pub no-day : (b : Bool) → may_come (cond b first200 first250) 300 ≡ false
no-day true = refl
no-day false = refl

on-v : (b : Bool) → Next (cond b under_varied under_day)
on-v true = record { some = refl; other = refl }
on-v false = record { some = refl; other = refl }

pub counted : (st : Due) (k : ℕ) (fs : List (List ℕ)) → Counts st → Head st.expect k → Counted st k fs
unfolding after_of
counted st k fs c (h100 e x) =
    let w = c.none x in
    let b = on-12 (eqb (version_in fs) 12) in
    rw e
    (record {
      counts = later (on100 st fs) b.some;
      days = sym w.0;
      channels = sym w.1;
      holds = λ m h. nowhere (on100 st fs) m (no-day (eqb (version_in fs) 12));
      first = b.other;
      intervals = λ m. rw b.other;
    })
counted st k fs c (h200 e x) =
    rw e (record { counts = later (on200 st fs) refl; days = refl; channels = refl; holds = λ m h u. refl; first = refl; intervals = λ m. refl })
counted st k fs c (h300 e x) =
    let b = on-v (is_varied st.n fs) in
    rw e (record { counts = later (on300 st fs) b.some; days = refl; channels = refl; holds = λ m h u. h x; first = b.other; intervals = λ m. rw b.other })
counted st k fs c (h400 e x) =
    rw e (record { counts = later (on400 st fs) refl; days = refl; channels = refl; holds = λ m h u. h (implied in_varied (λ y. may_come y 300) refl st.expect x); first = refl; intervals = λ m. refl })
counted st k fs c (h500 e x) =
    rw e (record { counts = later (on500 st fs) refl; days = refl; channels = refl; holds = λ m h u. h (implied in_day (λ y. may_come y 300) refl st.expect x); first = refl; intervals = λ m. refl })
counted st k fs c (h250 e x) =
    rw e (record { counts = later (on250 st fs) refl; days = refl; channels = refl; holds = λ m h. nowhere (on250 st fs) m refl; first = refl; intervals = λ m. refl })
counted st k fs c (h550 e x) =
    rw e (record { counts = later (on550 st fs) refl; days = refl; channels = refl; holds = λ m h. nowhere (on550 st fs) m refl; first = refl; intervals = λ m. refl })
counted st k fs c (h900 e x) =
    rw e (record { counts = later (on900 st fs) refl; days = refl; channels = refl; holds = λ m h. nowhere (on900 st fs) m refl; first = refl; intervals = λ m. refl })
