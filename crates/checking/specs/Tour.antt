-- The walk over the file as it stands before a record: what it has found so far, and from where the day and the channel that were asked for are found.
use Rattle.std.specs.Prelude.{ℕ, ◌+◌, ◌-◌, ◌≤◌, ◌<◌, ◌≡◌, List, ◌∷◌, cond, length, drop, leb, eqb}
use Rattle.format.specs.Cut.{lines}
use Rattle.format.specs.Order.{Due}
use Rattle.format.specs.File.{walk_of, most, check_of, IsAccepted}
use Rattle.format.specs.Day.{DayRows, days_of}
use Rattle.passing.specs.Passes.{Counts}
use Rattle.order.specs.declared.State.{State}
use Rattle.order.specs.State.{seen, Kept}
use Rattle.day.specs.Places.{Heads, days_at, DayAhead}
use Rattle.day.specs.declared.Under.{Under}
use Rattle.day.specs.declared.DayStart.{DayStart}
use Rattle.channel.specs.Places.{totals_in, totals_at, ChannelAhead}
use Rattle.channel.specs.declared.ChannelStart.{ChannelStart}
use Rattle.checking.specs.declared.tour.Tour.{Tour}

-- ---- before the first record

abbrev pub no_under : Under
no_under = record { at = 0; end = 0 }

abbrev pub first_day : ℕ → DayStart
first_day day = record { at = 0; left = day; under = no_under }

abbrev pub first_channel : ℕ → ChannelStart
first_channel channel = record { at = 0; left = channel }

abbrev pub first_tour : ℕ → ℕ → Tour
first_tour day channel = record { at = 0; records = 0; under = no_under; day = first_day day; before = 0; channel = first_channel channel }

-- ---- before any record

-- the days and channels that are not counted yet stand from this place on
pub record Ahead (file : List ℕ) (day channel at : ℕ) (u : Under) (st : Due) : Type 0 where
  pub counts : Counts st
  pub days : st.days ≤ day → drop day (days_of file) ≡ drop (day - st.days) (days_at file at u)
  pub totals : st.channels ≤ channel → drop channel (totals_in file) ≡ drop (channel - st.channels) (totals_at file at)
  pub channels : length (totals_in file) ≡ st.channels + length (totals_at file at)

-- where the file is accepted and has a day of this number, so many channels stand before it
abbrev pub ChannelsBefore : List ℕ → ℕ → ℕ → Type 0
ChannelsBefore file day before =
    IsAccepted file → (d : DayRows) (ds : List DayRows) → drop day (days_of file) ≡ d ∷ ds
    → length (totals_in file) ≡ before + length (totals_at file d.block.top.place)

-- the walk is on its way: what is left of the check is a walk from here, and what was noted is right
pub record Touring (file : List ℕ) (day channel : ℕ) (st : State) (t : Tour) : Type 0 where
  pub short : length file ≤ most
  pub within : t.at ≤ length file
  pub few : t.records ≤ t.at
  pub kept : Kept file t.at st
  pub walked : check_of file ≡ walk_of (seen file st) t.at t.records (lines (drop t.at file))
  pub heads : Heads file t.under
  pub ahead : Ahead file day channel t.at t.under (seen file st)
  pub to-day : DayAhead file day t.day
  pub here : st.days ≤ day → t.before ≡ st.channels
  pub passed : day < st.days → ChannelsBefore file day t.before
  pub to-channel : ChannelAhead file channel t.channel

-- behind the record that went from the walk's place to e and left the state s: the last 200, and the walk at p
abbrev pub under_to : Tour → ℕ → State → Under
under_to t e s = cond (eqb s.expect 2) (record { at = t.at; end = e }) t.under

abbrev pub turned_to : Tour → ℕ → ℕ → State → ℕ → ℕ → Tour
turned_to t e p s day channel =
    record {
      at = p;
      records = t.records + 1;
      under = under_to t e s;
      day = cond (leb s.days day) (record { at = p; left = day - s.days; under = under_to t e s }) t.day;
      before = cond (leb s.days day) s.channels t.before;
      channel = cond (leb s.channels channel) (record { at = p; left = channel - s.channels }) t.channel;
    }
