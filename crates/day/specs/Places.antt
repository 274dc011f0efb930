-- A day as places of the file, for the contracts of the inner functions: its 300 stands from a to e, its values start at v, its quality at q.
use Rattle.std.specs.Prelude.{ℕ, zero, suc, ◌+◌, ◌≤◌, ◌≡◌, List, [], ◌∷◌, length, drop, Option, Some, None}
use Rattle.ground.specs.Lists.{part}
use Rattle.format.specs.Cut.{lines, field}
use Rattle.format.specs.Records.{intervals_in, unit_in, millionths}
use Rattle.lines.specs.Places.{LineEnd}
use Rattle.format.specs.Day.{Row, row_at, BlockRows, DayRows, runs_from, days_from, days_of}
use Rattle.day.specs.declared.DayStart.{DayStart}
use Rattle.day.specs.declared.Under.{Under}
use Rattle.day.specs.declared.Place.{Place}

-- the values of n fields from field i on; one that is not there reads as 0
unfoldable pub values_from : ℕ → ℕ → List (List ℕ) → List ℕ
values_from zero i fs = []
values_from (suc n) i fs = millionths (field i fs) ∷ values_from n (suc i) fs

-- the 400s at place p
abbrev pub runs_at : List ℕ → ℕ → List Row
runs_at file p = runs_from p (lines (drop p file))

-- the block of n intervals in that unit whose 300 stands from a to e
abbrev pub block_at : List ℕ → ℕ → ℕ → ℕ → ℕ → BlockRows
block_at file a e n unit = record { n = n; unit = unit; top = row_at a (part file a e); runs = runs_at file (e + 2) }

-- ---- where a day stands

-- the 200 lies in the file
pub record Heads (file : List ℕ) (u : Under) : Type 0 where
  pub order : u.at ≤ u.end
  pub within : u.end ≤ length file

abbrev pub channel_at : List ℕ → Under → Row
channel_at file u = row_at u.at (part file u.at u.end)

-- the day under it whose 300 stands from a to e
abbrev pub day_at : List ℕ → ℕ → ℕ → Under → DayRows
day_at file a e u = record { channel = channel_at file u; block = block_at file a e (intervals_in (channel_at file u).cells) (unit_in (channel_at file u).cells) }

-- the days from place p on, with the 200 before
abbrev pub days_at : List ℕ → ℕ → Under → List DayRows
days_at file p u = days_from p (channel_at file u) (lines (drop p file))

-- the day of a number is found from there
pub record DayAhead (file : List ℕ) (day : ℕ) (from : DayStart) : Type 0 where
  pub within : from.at ≤ length file
  pub heads : Heads file from.under
  pub is : drop day (days_of file) ≡ drop from.left (days_at file from.at from.under)

-- the days from the one that was found
abbrev pub located : List ℕ → Option Place → List DayRows
located file (Some p) = day_at file p.at p.end p.under ∷ days_at file (p.end + 2) p.under
located file None = []

abbrev pub inside : List ℕ → Option Place → Type 0
inside file (Some p) = (p.at ≤ p.end) × (p.end + 2 ≤ length file) × Heads file p.under × LineEnd file p.at p.end
inside file None = Unit

-- and the day behind it is found from there
pub record Behind (file : List ℕ) (p : Option Place) (from : DayStart) : Type 0 where
  pub within : from.at ≤ length file
  pub heads : Heads file from.under
  pub is : drop 1 (located file p) ≡ drop from.left (days_at file from.at from.under)
