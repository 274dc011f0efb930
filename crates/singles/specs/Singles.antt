-- 02, 4: "It must equal the single calls in order. If any single call would refuse, 15 for missing places included, the lowest such day's refusal is returned."
-- What a call for several days answers and leaves, said by the single calls: v are the lists that it leaves of those that were lent, w.
use Rattle.std.specs.Prelude.{ℕ, ◌+◌, ◌-◌, ◌<◌, ◌≡◌, List, [], ◌∷◌, map, cond, take, drop, get_or}
use Rattle.ground.specs.Lists.{sum}
use Rattle.format.specs.Answers.{Answer, accepted, refused, refusal}
use Rattle.format.specs.Day.{DayRows, days_of, outcome, read_of}
use Rattle.months.specs.Month.{Daily, Lent, each_mark, behind, places_for, DaysLeft}

-- ---- all days are read

-- where the stretch of day j of the call starts: behind the intervals of the days before it, "without gaps"
abbrev pub start_of : ℕ → Daily → ℕ
start_of j ds = sum (take j ds.counts)

-- the n places of a list from place k on
abbrev pub stretch : ℕ → ℕ → List ℕ → List ℕ
stretch k n ws = take n (drop k ws)

-- what the lists of one place a day hold for day j
abbrev pub answer_at : ℕ → Daily → List ℕ
answer_at j ds = get_or ds.dates j 0 ∷ get_or ds.counts j 0 ∷ get_or ds.updates j 0 ∷ get_or ds.loads j 0 ∷ get_or ds.units j 0 ∷ []

-- `read_day` of a day, lent the n places from k on: it answers what the call has at place j, and leaves what the call has in those places
abbrev pub is_single : List ℕ → ℕ → ℕ → ℕ → ℕ → Lent → Lent → Type 0
is_single file day j k n w v =
    read_of file day (stretch k n w.values) (each_mark (stretch k n) w.marks)
    ≡ outcome (accepted (answer_at j v.days)) (stretch k n v.values) (each_mark (stretch k n) v.marks)

pub record ReadSingly (file : List ℕ) (first asked : ℕ) (w : Lent) (days intervals : ℕ) (v : Lent) : Type 0 where
  pub all : days ≡ asked
  pub each : (j : ℕ) → j < days → is_single file (first + j) j (start_of j v.days) (get_or v.days.counts j 0) w v
  pub many : intervals ≡ start_of days v.days
  pub rest : behind intervals days v ≡ behind intervals days w

-- ---- a day is refused

-- `read_day` of a day, lent these lists; "15 if [..] a list of one place a day has none"
abbrev pub place_after : Answer → Daily → Answer
place_after (accepted xs) ds = cond (places_for 1 ds) (accepted xs) (refusal 15)
place_after (refused x p k i) ds = refused x p k i

unfoldable pub single_answer : List ℕ → ℕ → Lent → Answer
single_answer file day w = place_after (read_of file day w.values w.marks).answer w.days

-- what is left for day j of the call: what lies behind the days before it
unfoldable pub left_for : List ℕ → ℕ → ℕ → Lent → Lent
left_for file first j w = behind (sum (map (λ (d : DayRows). d.block.n) (take j (drop first (days_of file))))) j w

abbrev pub Passes : Answer → Type 0
Passes a = (xs : List ℕ) × (a ≡ accepted xs)

-- the lowest day that a single call would refuse
pub record RefusedSingly (file : List ℕ) (first asked : ℕ) (w : Lent) (a : Answer) : Type 0 where
  pub day : ℕ
  pub within : day < asked
  pub lower : (j : ℕ) → j < day → Passes (single_answer file (first + j) (left_for file first j w))
  pub is : single_answer file (first + day) (left_for file first day w) ≡ a

-- ---- the call

abbrev pub said_singly : List ℕ → ℕ → ℕ → Lent → Answer → Lent → Type 0
said_singly file first asked w (accepted xs) v = ReadSingly file first asked w (get_or xs 0 0) (get_or xs 1 0) v
said_singly file first asked w (refused x p k i) v = RefusedSingly file first asked w (refused x p k i) × (v ≡ w)

abbrev pub AsSingleCalls : List ℕ → ℕ → ℕ → Lent → DaysLeft → Type 0
AsSingleCalls file first last w o = said_singly file first (last + 1 - first) w o.answer o.lists
