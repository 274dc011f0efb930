-- 02, 4: "Give it a call for days a to b of one file that fills one long list of each kind, each day lent its own stretch in the middle, without gaps; date, n and
-- the two times go to lists of one place a day. It must equal the single calls in order. If any single call would refuse, 15 for missing places included, the
-- lowest such day's refusal is returned. With a greater than b an accepted file gives success and nothing is written." The unit goes into a list of one place a day too.
use Rattle.std.specs.Prelude.{ℕ, zero, suc, ◌+◌, ◌-◌, List, [], ◌∷◌, ◌++◌, Bool, cond, ◌&&◌, length, take, drop, get_or, leb, Result, Ok, Err}
use Rattle.format.specs.declared.Refusal.{Refusal}
use Rattle.format.specs.Answers.{Answer, accepted, refused, refusal, refused_as}
use Rattle.format.specs.File.{check_of}
use Rattle.format.specs.Day.{Five, five, Outcome, read_of}
use Rattle.months.specs.declared.DaysRead.{DaysRead}

-- days, intervals
abbrev pub days_read_as : Result DaysRead Refusal → Answer
days_read_as (Ok d) = accepted (d.days ∷ d.intervals ∷ [])
days_read_as (Err x) = refused_as x

-- ---- what is lent

-- the five lists of one place a day
pub record Daily : Type 0 where
  pub dates : List ℕ
  pub counts : List ℕ
  pub updates : List ℕ
  pub loads : List ℕ
  pub units : List ℕ

abbrev pub daily : List ℕ → List ℕ → List ℕ → List ℕ → List ℕ → Daily
daily a b c d e = record { dates = a; counts = b; updates = c; loads = d; units = e }

-- with the six long ones
pub record Lent : Type 0 where
  pub values : List ℕ
  pub marks : Five
  pub days : Daily

abbrev pub lent : List ℕ → Five → Daily → Lent
lent vs ms ds = record { values = vs; marks = ms; days = ds }

-- f of each list
abbrev pub each_mark : (List ℕ → List ℕ) → Five → Five
each_mark f ms = five (f ms.flags) (f ms.methods) (f ms.reasons) (f ms.starts) (f ms.lengths)

abbrev pub each_daily : (List ℕ → List ℕ) → Daily → Daily
each_daily f ds = daily (f ds.dates) (f ds.counts) (f ds.updates) (f ds.loads) (f ds.units)

-- of k intervals and i days: what stands in the lists for them, and behind them
abbrev pub up_to : ℕ → ℕ → Lent → Lent
up_to k i w = lent (take k w.values) (each_mark (take k) w.marks) (each_daily (take i) w.days)

abbrev pub behind : ℕ → ℕ → Lent → Lent
behind k i w = lent (drop k w.values) (each_mark (drop k) w.marks) (each_daily (drop i) w.days)

-- one behind the other, list by list
abbrev pub joined : Lent → Lent → Lent
joined a b =
    lent
    (a.values ++ b.values)
    (five
    (a.marks.flags ++ b.marks.flags)
    (a.marks.methods ++ b.marks.methods)
    (a.marks.reasons ++ b.marks.reasons)
    (a.marks.starts ++ b.marks.starts)
    (a.marks.lengths ++ b.marks.lengths))
    (daily
    (a.days.dates ++ b.days.dates)
    (a.days.counts ++ b.days.counts)
    (a.days.updates ++ b.days.updates)
    (a.days.loads ++ b.days.loads)
    (a.days.units ++ b.days.units))

-- each list of one place a day has places for i days
unfoldable pub places_for : ℕ → Daily → Bool
places_for i ds =
    leb i (length ds.dates) && leb i (length ds.counts) && leb i (length ds.updates) && leb i (length ds.loads) && leb i (length ds.units)

-- ---- the single calls in order

-- some days are read: how many, how many intervals they have, and what the lists hold then; or one of them is refused
pub data Turns : Type 0 where
  read : ℕ → ℕ → Lent → Turns
  stopped : Answer → Turns

-- i days with k intervals before others
abbrev pub in_front : ℕ → ℕ → Lent → Turns → Turns
in_front i k a (read d n b) = read (i + d) (k + n) (joined a b)
in_front i k a (stopped x) = stopped x

-- a reading's answer is date, n, update time, load time, unit
abbrev pub n_in : List ℕ → ℕ
n_in xs = get_or xs 1 0

-- what a single call leaves in its n places of the long lists, and its answer as one place of each other list
abbrev pub stretch_of : List ℕ → Outcome → Lent
stretch_of xs o =
    lent
    (take (n_in xs) o.values)
    (each_mark (take (n_in xs)) o.marks)
    (daily (get_or xs 0 0 ∷ []) (n_in xs ∷ []) (get_or xs 2 0 ∷ []) (get_or xs 3 0 ∷ []) (get_or xs 4 0 ∷ []))

-- a single call that answers so, and the days behind it; "15 if [..] a list of one place a day has none"
abbrev pub day_then : Answer → Outcome → Daily → (ℕ → Turns) → Turns
day_then (accepted xs) o ds rest = cond (places_for 1 ds) (in_front 1 (n_in xs) (stretch_of xs o) (rest (n_in xs))) (stopped (refusal 15))
day_then (refused x p k i) o ds rest = stopped (refused x p k i)

-- m days from the day of a number on: the first is lent what there is, the others what lies behind its stretch
unfoldable pub in_turn : List ℕ → ℕ → ℕ → Lent → Turns
in_turn file zero day w = read 0 0 w
in_turn file (suc m) day w =
    day_then (read_of file day w.values w.marks).answer (read_of file day w.values w.marks) w.days
    (λ n. in_turn file m (day + 1) (behind n 1 w))

-- ---- the call

-- what it answers, and what every list holds then
pub record DaysLeft : Type 0 where
  pub answer : Answer
  pub lists : Lent

abbrev pub days_left : Answer → Lent → DaysLeft
days_left a w = record { answer = a; lists = w }

-- "Nothing is written then."
abbrev pub wholly : Turns → Lent → DaysLeft
wholly (read d k v) w = days_left (accepted (d ∷ k ∷ [])) v
wholly (stopped a) w = days_left a w

-- "The file's refusal; then the lowest day that a single call would refuse"
abbrev pub of_file : Answer → DaysLeft → Lent → DaysLeft
of_file (accepted xs) o w = o
of_file (refused x p k i) o w = days_left (refused x p k i) w

unfoldable pub month_of : List ℕ → ℕ → ℕ → Lent → DaysLeft
month_of file first last w = of_file (check_of file) (wholly (in_turn file (last + 1 - first) first w) w) w
