-- What the days of a call are refused with, told by the lengths of the lists alone.
use Rattle.std.specs.Prelude.{ℕ, zero, suc, ◌-◌, ◌≤◌, ◌≡◌, List, [], ◌∷◌, cond, ◌&&◌, length, leb}
use Rattle.format.specs.Day.{Five, DayRows, room_for}
use Rattle.lists.specs.Lists.{Roomy}
use Rattle.months.specs.Month.{Daily, Lent, behind, places_for}

-- no long list has fewer than n places
pub record Long (n : ℕ) (vs : List ℕ) (ms : Five) : Type 0 where
  pub values : n ≤ length vs
  pub marks : Roomy n ms

-- no list of one place a day has fewer than i
pub record Placed (i : ℕ) (ds : Daily) : Type 0 where
  pub dates : i ≤ length ds.dates
  pub counts : i ≤ length ds.counts
  pub updates : i ≤ length ds.updates
  pub loads : i ≤ length ds.loads
  pub units : i ≤ length ds.units

-- 0 if none of the first m days is refused, where each long list has that room, each of one place a day so many places
unfoldable pub fault_of : ℕ → List DayRows → ℕ → ℕ → ℕ
fault_of zero ds room places = 0
fault_of (suc m) [] room places = 14
fault_of (suc m) (d ∷ ds) room places =
    cond (leb d.block.n room && leb 1 places) (fault_of m ds (room - d.block.n) (places - 1)) 15

-- the lists have that much, and none has more
pub record Holds (w : Lent) (room places : ℕ) : Type 0 where
  pub long : (n : ℕ) → room_for n w.values w.marks ≡ leb n room
  pub daily : (i : ℕ) → places_for i w.days ≡ leb i places

-- the same of the lists themselves
unfoldable pub fault_in : ℕ → List DayRows → Lent → ℕ
fault_in zero ds w = 0
fault_in (suc m) [] w = 14
fault_in (suc m) (d ∷ ds) w =
    cond (room_for d.block.n w.values w.marks && places_for 1 w.days) (fault_in m ds (behind d.block.n 1 w)) 15
