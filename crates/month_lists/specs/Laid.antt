-- A day laid into the lists of a call: its intervals from place k on, its answer at place i.
use Rattle.std.specs.Prelude.{ℕ, ◌+◌, ◌-◌, ◌≤◌, ◌≡◌, List, [], ◌∷◌, set, drop}
use Rattle.std.proofs.lemmas.List.Edits.{sets}
use Rattle.format.specs.Records.{date_in, update_in, load_in}
use Rattle.format.specs.Answers.{accepted}
use Rattle.format.specs.File.{IsAccepted}
use Rattle.format.specs.Day.{BlockRows, DayRows, Five, Outcome, outcome, values_of, tags_of, days_of}
use Rattle.lists.specs.Lists.{stored}
use Rattle.day.specs.Places.{DayAhead}
use Rattle.day.specs.declared.DayStart.{DayStart}
use Rattle.months.specs.Month.{Daily, daily, Lent, lent}
use Rattle.month_room.specs.Room.{Long, Placed, fault_in}

-- date, n, update time, load time, unit
abbrev pub answer_of : BlockRows → List ℕ
answer_of d = date_in d.top.cells ∷ d.n ∷ update_in d.n d.top.cells ∷ load_in d.n d.top.cells ∷ d.unit ∷ []

-- its intervals in the long lists
unfoldable pub stretched : BlockRows → ℕ → List ℕ → Five → Outcome
stretched d k vs ms = outcome (accepted (answer_of d)) (sets vs k (values_of d)) (stored ms k (tags_of d))

-- an answer in the lists of one place a day
unfoldable pub noted : ℕ → ℕ → ℕ → ℕ → ℕ → ℕ → Daily → Daily
noted i date n update load unit ds =
    daily (set ds.dates i date) (set ds.counts i n) (set ds.updates i update) (set ds.loads i load) (set ds.units i unit)

unfoldable pub laid : BlockRows → ℕ → ℕ → Lent → Lent
laid d k i w =
    lent
    (sets w.values k (values_of d))
    (stored w.marks k (tags_of d))
    (noted i (date_in d.top.cells) d.n (update_in d.n d.top.cells) (load_in d.n d.top.cells) d.unit w.days)

-- the first of some days, where there is one
abbrev pub n_first : List DayRows → ℕ
n_first [] = 0
n_first (d ∷ ds) = d.block.n

abbrev pub laid_first : List DayRows → ℕ → ℕ → Lent → Lent
laid_first [] k i w = w
laid_first (d ∷ ds) k i w = laid d.block k i w

-- the lists have k places for intervals and i for days
pub record Reached (k i : ℕ) (w : Lent) : Type 0 where
  pub long : Long k w.values w.marks
  pub daily : Placed i w.days

-- none of the days of a call is refused
pub record Fits (file : List ℕ) (first last : ℕ) (from : DayStart) (w : Lent) : Type 0 where
  pub accepted : IsAccepted file
  pub order : first ≤ last
  pub ahead : DayAhead file first from
  pub room : fault_in (last + 1 - first) (drop first (days_of file)) w ≡ 0
