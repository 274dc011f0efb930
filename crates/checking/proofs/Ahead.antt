-- From where a day and a channel are found, as the walk over the file notes it: what a record does to the counts of the state, it does to the days and
-- the totals that are left. Assumes nothing.
use Prim.Native.Nat.{ℕ, suc, ◌+◌, ◌-◌, ◌≤◌, ◌<◌}
use mathlib.Core.Path.{◌≡◌, refl, sym, ◌∙◌, ap}
use mathlib.Core.List.{List, ◌∷◌}
use mathlib.Core.Bool.{Bool, true, false, cond}
use Rattle.std.proofs.Common.{Option, Some, Result, Ok}
use native.Mathlib.Omega.{arith}
use native.Mathlib.Decide.{dec_lt}
use lib.ListN.{length, drop}
use lib.Dec.{eqb, leb}
use borrow.Author.Tests.{eqb-true, eqb-false, leb-true}
use Rattle.ground.specs.Lists.{part}
use Rattle.format.specs.Cut.{fields}
use Rattle.format.specs.Records.{kind_in}
use Rattle.format.specs.Order.{Due}
use Rattle.format.specs.Faults.{fault_of, Fine}
use Rattle.format.specs.File.{after}
use Rattle.format.specs.Day.{DayRows, days_of}
use Rattle.format.specs.Total.{totals_from}
use Rattle.passing.proofs.Fit.{fine-fit, head}
use Rattle.passing.proofs.Counts.{is_first, Counted, counted}
use Rattle.lines.specs.Places.{LineEnd}
use Rattle.lines.proofs.Ends.{line-more}
use Rattle.lines.specs.declared.Found.{Found}
use Rattle.record.proofs.Turns.{by-test}
use Rattle.walker.specs.Handed.{record_at}
use Rattle.walker.proofs.Handed.{handed-looked, handed-inside}
use Rattle.order.specs.declared.State.{State}
use Rattle.order.specs.declared.Stop as stop
use Rattle.order.specs.State.{seen, goes, next_of, step_as}
use Rattle.order.proofs.Next.{gone}
use Rattle.follows.proofs.Expected.{is-first}
use Rattle.day.specs.Places.{Heads, day_at, days_at, DayAhead}
use Rattle.day.specs.declared.Under.{Under}
use Rattle.day.proofs.Find.{no-heads}
use Rattle.day.specs.declared.DayStart.{DayStart}
use Rattle.day.proofs.Find as days
use Rattle.channel.specs.Places.{totals_in, totals_at, ChannelAhead}
use Rattle.checking.specs.Tour.{no_under, first_day, first_channel, Ahead, ChannelsBefore}
use Rattle.channel.specs.declared.ChannelStart.{ChannelStart}
use Rattle.channel.proofs.Find as totals

-- ---- a turn of the walk

-- the record from at to e is passed, and s is the state behind it, v the 200
module _ (file : List ℕ) (day channel at e : ℕ) (u v : Under) (st s : Due) (l : LineEnd file at e) (go : e ≡ length file → ⊥) (a : Ahead file day channel at u st)
    (next : goes s ≡ next_of st (part file at e)) (ev : v ≡ cond (is_first s.expect) (record { at = at; end = e }) u) where
  abbrev k : ℕ
  k = kind_in (fields (part file at e))

  both : (fault_of st (part file at e) ≡ Fine) × (s ≡ after st (part file at e))
  unfolding next_of
  both = gone (fault_of st (part file at e)) (after st (part file at e)) s (sym next)

  counts-now : Counted st k (fields (part file at e))
  counts-now = counted st k (fields (part file at e)) a.counts (head _ _ (fine-fit st (part file at e) both.0).may)

  days-now : s.days ≡ cond (eqb k 300) (st.days + 1) st.days
  days-now = rw both.1 counts-now.days

  channels-now : s.channels ≡ cond (eqb k 200) (st.channels + 1) (cond (eqb k 250) (st.channels + 1) st.channels)
  channels-now = rw both.1 counts-now.channels

  under-now : v ≡ cond (eqb k 200) (record { at = at; end = e }) u
  under-now =
      ev ∙ ap (λ (b : Bool). cond b (record { at = at; end = e }) u)
      (ap (λ (x : Due). is_first x.expect) both.1 ∙ counts-now.first)

  pub heads-on : Heads file u → Heads file v
  heads-on h = by (eqb k 200) refl
    where
      by : (b : Bool) → eqb k 200 ≡ b → Heads file v
      by true i =
          let w : v ≡ record { at = at; end = e } = rw i at under-now in
          rw w (record { order = l.order; within = l.within })
      by false i = let w : v ≡ u = rw i at under-now in rw w h

  days-on : s.days ≤ day → drop day (days_of file) ≡ drop (day - s.days) (days_at file (e + 2) v)
  days-on h = by (eqb k 300) refl (eqb k 200) refl
    where
      by : (b : Bool) → eqb k 300 ≡ b → (d : Bool) → eqb k 200 ≡ d → drop day (days_of file) ≡ drop (day - s.days) (days_at file (e + 2) v)
      by true i d j =
          let z : k ≡ 300 = eqb-true k 300 i in
          let w : s.days ≡ st.days + 1 = rw i at days-now in
          let o : eqb k 200 ≡ false = rw z in
          let y : v ≡ u = rw o at under-now in
          let q : day - s.days ≡ day - st.days - 1 = omega arith in
          rw (q, y) (days.find-next file at e (day - st.days) u l (drop day (days_of file)) (a.days (omega arith)) go refl z (λ y. omega arith))
      by false i true j =
          let w : s.days ≡ st.days = rw i at days-now in
          let y : v ≡ record { at = at; end = e } = rw j at under-now in
          rw w (days.find-channel file at e (day - st.days) u l (drop day (days_of file)) (a.days (omega arith)) go refl (eqb-false k 300 i) (eqb-true k 200 j) v
          (ap (λ (x : Under). x.at) y) (ap (λ (x : Under). x.end) y))
      by false i false j =
          let w : s.days ≡ st.days = rw i at days-now in
          let y : v ≡ u = rw j at under-now in
          rw (w, y) (days.find-other file at e (day - st.days) u l (drop day (days_of file)) (a.days (omega arith)) go refl (eqb-false k 300 i) (eqb-false k 200 j))

  totals-on : s.channels ≤ channel → drop channel (totals_in file) ≡ drop (channel - s.channels) (totals_at file (e + 2))
  totals-on h = by (eqb k 200) refl (eqb k 250) refl
    where
      by : (b : Bool) → eqb k 200 ≡ b → (d : Bool) → eqb k 250 ≡ d
          → drop channel (totals_in file) ≡ drop (channel - s.channels) (totals_at file (e + 2))
      by true i d j =
          let w : s.channels ≡ st.channels + 1 = rw i at channels-now in
          let q : channel - s.channels ≡ channel - st.channels - 1 = omega arith in
          rw q (totals.find-on file at e (channel - st.channels) l _ (a.totals (omega arith)) go refl (eqb-true k 200 i) (λ y. omega arith))
      by false i true j =
          let w : s.channels ≡ st.channels + 1 = rw (i, j) at channels-now in
          let q : channel - s.channels ≡ channel - st.channels - 1 = omega arith in
          rw q (totals.find-over file at e (channel - st.channels) l _ (a.totals (omega arith)) go refl (eqb-false k 200 i) (eqb-true k 250 j) (λ y. omega arith))
      by false i false j =
          let w : s.channels ≡ st.channels = rw (i, j) at channels-now in
          rw w (totals.find-other file at e (channel - st.channels) l _ (a.totals (omega arith)) go refl (eqb-false k 200 i) (eqb-false k 250 j))

  channels-on : length (totals_in file) ≡ s.channels + length (totals_at file (e + 2))
  unfolding totals_from
  channels-on = by (eqb k 200) refl (eqb k 250) refl
    where
      by : (b : Bool) → eqb k 200 ≡ b → (d : Bool) → eqb k 250 ≡ d → length (totals_in file) ≡ s.channels + length (totals_at file (e + 2))
      by true i d j =
          let w : s.channels ≡ st.channels + 1 = rw i at channels-now in
          let z : length (totals_at file at) ≡ suc (length (totals_at file (e + 2))) = rw (line-more file at e l go, i) in
          omega (arith, a.channels, w, z)
      by false i true j =
          let w : s.channels ≡ st.channels + 1 = rw (i, j) at channels-now in
          let z : length (totals_at file at) ≡ suc (length (totals_at file (e + 2))) = rw (line-more file at e l go, i, j) in
          omega (arith, a.channels, w, z)
      by false i false j =
          let w : s.channels ≡ st.channels = rw (i, j) at channels-now in
          let z : length (totals_at file at) ≡ length (totals_at file (e + 2)) = rw (line-more file at e l go, i, j) in
          omega (arith, a.channels, w, z)

  pub ahead-on : Ahead file day channel (e + 2) v s
  ahead-on =
      record {
        counts = rw both.1 counts-now.counts;
        days = days-on;
        totals = totals-on;
        channels = channels-on;
      }

  -- the channels before the day, once it is passed: where this record is its 300, those that the state has counted
  pub before_on : (b : ℕ) → (st.days ≤ day → b ≡ st.channels) → (day < st.days → ChannelsBefore file day b) → day < s.days → ChannelsBefore file day b
  before_on b here passed h = by (dec_lt day st.days) (eqb k 300) refl
    where
      by : Dec (day < st.days) → (t : Bool) → eqb k 300 ≡ t → ChannelsBefore file day b
      by (yes p) t i = passed p
      by (no p) false i = absurd (let w : s.days ≡ st.days = rw i at days-now in let o : ⊥ = omega arith in o)
      by (no p) true i = λ x d ds q.
          (let w : s.days ≡ st.days + 1 = rw i at days-now in
          let z : b ≡ st.channels = here (omega arith) in
          let f : day_at file at e u ∷ days_at file (e + 2) u ≡ d ∷ ds =
          days.find-here file at e (day - st.days) u l (drop day (days_of file)) (a.days (omega arith)) go refl (eqb-true k 300 i) (omega arith) ∙ q in
          let m : at ≡ d.block.top.place = (let y : day_at file at e u ≡ d = cc in ap (λ (x : DayRows). x.block.top.place) y) in
          rw (z, ← m) a.channels)

-- ---- what is noted

pub ahead-first : (file : List ℕ) (day channel : ℕ) (st : Due) → st.days ≡ 0 → st.channels ≡ 0 → Ahead file day channel 0 no_under st
unfolding days_of
ahead-first file day channel st d c =
    record {
      counts = record { none = λ h. (d, c) };
      days = λ h. (let q : day - st.days ≡ day = omega arith in rw q);
      totals = λ h. (let q : channel - st.channels ≡ channel = omega arith in rw q);
      channels = omega arith;
    }

module _ (file : List ℕ) (day channel at : ℕ) (u : Under) (st : Due) (within : at ≤ length file) (heads : Heads file u) (a : Ahead file day channel at u st) where
  pub day-noted : (b r : DayStart) → DayAhead file day b → r ≡ cond (leb st.days day) (record { at = at; left = day - st.days; under = u }) b → DayAhead file day r
  day-noted b r h q =
      rw q (by-test (DayAhead file day) (leb st.days day) (λ t. record { within = within; heads = heads; is = a.days (leb-true _ _ t) }) (λ t. h))

  pub channel-noted : (b r : ChannelStart) → ChannelAhead file channel b → r ≡ cond (leb st.channels channel) (record { at = at; left = channel - st.channels }) b
      → ChannelAhead file channel r
  channel-noted b r h q = rw q (by-test (ChannelAhead file channel) (leb st.channels channel) (λ t. record { within = within; is = a.totals (leb-true _ _ t) }) (λ t. h))

pub day-first : (file : List ℕ) (day : ℕ) → DayAhead file day (first_day day)
unfolding days_of
day-first file day = record { within = omega arith; heads = no-heads file no_under refl refl; is = refl }

pub channel-first : (file : List ℕ) (channel : ℕ) → ChannelAhead file channel (first_channel channel)
channel-first file channel = record { within = omega arith; is = refl }

-- the turn, in the terms of the walk's code
module _ (file : List ℕ) (day channel at : ℕ) (u v : Under) (st : State) (r : Option (ℕ × Found)) (is : r ≡ record_at file at) (p : ℕ) (f : Found) (h : r ≡ Some (p, f)) (t : Result State stop.Stop)
    (et : step_as file t ≡ next_of (seen file st) (part file at f.end)) (s : State) (q : t ≡ Ok s) (a : Ahead file day channel at u (seen file st)) where
  next-is : goes (seen file s) ≡ next_of (seen file st) (part file at f.end)
  next-is = rw q at et

  first-is : v ≡ cond (eqb s.expect 2) (record { at = at; end = f.end }) u → v ≡ cond (is_first (seen file s).expect) (record { at = at; end = f.end }) u
  first-is ev = ev ∙ ap (λ (b : Bool). cond b (record { at = at; end = f.end }) u) (is-first s.expect)

  pub under-turn : Heads file u → v ≡ cond (eqb s.expect 2) (record { at = at; end = f.end }) u → Heads file v
  under-turn g ev =
      heads-on file day channel at f.end u v (seen file st) (seen file s) (handed-looked file at r is p f h).ends (handed-inside file at r is p f h) a next-is (first-is ev) g

  pub ahead-turn : v ≡ cond (eqb s.expect 2) (record { at = at; end = f.end }) u → Ahead file day channel (f.end + 2) v (seen file s)
  ahead-turn ev =
      ahead-on file day channel at f.end u v (seen file st) (seen file s) (handed-looked file at r is p f h).ends (handed-inside file at r is p f h) a next-is (first-is ev)

  pub before-turn : v ≡ cond (eqb s.expect 2) (record { at = at; end = f.end }) u → (b : ℕ) → (st.days ≤ day → b ≡ st.channels)
      → (day < st.days → ChannelsBefore file day b) → day < s.days → ChannelsBefore file day b
  before-turn ev =
      before_on file day channel at f.end u v (seen file st) (seen file s) (handed-looked file at r is p f h).ends (handed-inside file at r is p f h) a next-is (first-is ev)
