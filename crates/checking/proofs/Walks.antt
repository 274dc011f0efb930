-- The walk over the file: what each way out of a turn answers, and the turn itself. Assumes nothing.
use Prim.Native.Nat.{ℕ, ◌+◌, ◌-◌, ◌≤◌, ◌<◌}
use mathlib.Core.Path.{◌≡◌, refl, sym, ap, ◌∙◌}
use mathlib.Core.Bool.{true, false, true≢false}
use mathlib.Core.List.{List, [], ◌∷◌}
use Rattle.std.proofs.Common.{Option, Some, None, Result, Ok, Err}
use native.Mathlib.Omega.{arith}
use native.Mathlib.Decide.{dec_lt}
use lib.ListN.{length, drop, length-drop}
use lib.Seq.{drop-nil, drop-length}
use borrow.Author.Tests.{ne_eqb, le-leb, lt-leb, lt-ltb, le-ltb}
use Rattle.ground.specs.Lists.{part}
use Rattle.format.specs.Cut.{Lines, line, rest, lines, fields}
use Rattle.format.specs.Records.{kind_in}
use Rattle.format.specs.Order.{Due}
use Rattle.format.specs.Faults.{fault_of, Fault}
use Rattle.format.specs.Day.{DayRows, days_from}
use Rattle.format.specs.Answers.{Answer, accepted, refused, refused_as, checked_as}
use Rattle.format.specs.declared.Refusal.{Refusal}
use Rattle.format.specs.File.{after, or_go_on, walk_of, check_of}
use Rattle.format.specs.Faults as faults
use Rattle.lines.specs.Places.{line_len, LineEnd}
use Rattle.lines.proofs.Ends.{line_at, line-none, line-more, line-long}
use Rattle.lines.specs.declared.Found.{Found}
use Rattle.walker.specs.Handed.{record_at}
use Rattle.walker.proofs.Handed.{handed-none, handed-looked, handed-inside, handed-order, handed-room}
use Rattle.order.specs.declared.State.{State}
use Rattle.order.specs.declared.Stop as stop
use Rattle.follows.specs.Tests.{expected_as}
use Rattle.order.specs.State.{seen, closed, Kept, Next, goes, stops, or_stop, next_of, step_as, Holds}
use Rattle.order.proofs.Next.{kept_on}
use Rattle.follows.proofs.Expected.{is-end, not_end}
use Rattle.passing.proofs.Walk.{not-accepted, goes as goes_on_lem}
use Rattle.format.proofs.States.{not-ended}
use Rattle.day.specs.Places.{channel_at, DayAhead}
use Rattle.day.proofs.Find.{no-heads}
use Rattle.channel.specs.Places.{totals_in, totals_at, ChannelAhead}
use Rattle.checking.specs.declared.tour.Tour.{Tour}
use Rattle.checking.specs.declared.tour.Noted.{Noted}
use Rattle.checking.specs.Tour.{no_under, first_day, first_channel, first_tour, ChannelsBefore, Touring, under_to, turned_to}
use Rattle.checking.proofs.Ahead.{ahead-first, day-first, channel-first, under-turn, ahead-turn, before-turn, day-noted, channel-noted}

-- ---- a file of at most 1,048,576 bytes

pub too_long : (file : List ℕ) (x : Refusal) → refused_as x ≡ refused 1 0 0 0 → 1048576 < length file → check_of file ≡ refused_as x
unfolding check_of
too_long file x e h = rw (lt-ltb _ _ h) (sym e)

walk_begins : (file : List ℕ) → length file ≤ 1048576 → check_of file ≡ walk_of (seen file (closed 0 0 0 0 0 0 0)) 0 0 (lines (drop 0 file))
unfolding check_of expected_as
walk_begins file h = rw (le-ltb _ _ h)

-- ---- a turn: the walk stands at `at`, before record k, which ends at e

-- what comes of a record, in the walk that goes on with w
abbrev onward : ℕ → ℕ → (Due → Answer) → Next → Answer
onward p k w (goes st) = w st
onward p k w (stops x o i) = refused x (p + o) k i

-- the walk behind a record that ends at e
behind : List ℕ → ℕ → ℕ → Due → Answer
behind file e k st = walk_of st (e + 2) (k + 1) (lines (drop (e + 2) file))

onward-is : (p k : ℕ) (f : Fault) (st : Due) (w : Due → Answer) → or_go_on p k f (w st) ≡ onward p k w (or_stop f st)
onward-is p k faults.Fine st w = refl
onward-is p k (faults.Stop x o i) st w = refl

module _ (file : List ℕ) (at k : ℕ) (st : State) (r : Option (ℕ × Found)) (is : r ≡ record_at file at) (known : st.expect ≤ 9) (going : st.expect ≡ 9 → ⊥)
    (inv : check_of file ≡ walk_of (seen file st) at k (lines (drop at file))) where
  pub walk_2 : r ≡ None → check_of file ≡ refused 2 at k 0
  unfolding walk_of
  walk_2 h = inv ∙ rw (handed-none file at r is h, not_end st.expect known going)

  module _ (p : ℕ) (f : Found) (h : r ≡ Some (p, f)) (t : Result State stop.Stop) (et : step_as file t ≡ next_of (seen file st) (part file at f.end)) where
    abbrev e : ℕ
    e = f.end

    turn : check_of file ≡ onward at k (behind file e k) (step_as file t)
    unfolding walk_of next_of behind
    turn =
        let s : LineEnd file at e = (handed-looked file at r is p f h).ends in
        let m : at + length (part file at e) + 2 ≡ e + 2 = omega (arith, line-long file at e s, s.order) in
        rw et
        (inv ∙ rw (line-more file at e s (handed-inside file at r is p f h), not_end st.expect known going, m)
        (onward-is at k (fault_of (seen file st) (part file at e)) (after (seen file st) (part file at e)) (behind file e k)))

    pub walk-stop : (x : stop.Stop) → t ≡ Err x → check_of file ≡ refused x.number (at + x.place) k x.field
    walk-stop x q = rw q at turn

    pub walk-on : (n : State) → t ≡ Ok n → check_of file ≡ walk_of (seen file n) (e + 2) (k + 1) (lines (drop (e + 2) file))
    unfolding behind
    walk-on n q = rw q at turn

-- ---- behind the 900

module _ (file : List ℕ) (at k : ℕ) (st : State) (done : st.expect ≡ 9) (inv : check_of file ≡ walk_of (seen file st) at k (lines (drop at file))) where
  pub walk_end : (v c d : ℕ) → at ≡ length file → v ≡ st.version → c ≡ st.channels → d ≡ st.days → accepted (v ∷ c ∷ d ∷ []) ≡ check_of file
  unfolding walk_of lines
  walk_end v c d h ev ec ed = rw (inv, h, drop-length file, is-end st.expect done, ev, ec, ed)

  pub walk-13 : {a : Answer} → at ≤ length file → (at ≡ length file → ⊥) → a ≡ refused 13 at k 0 → a ≡ check_of file
  unfolding walk_of
  walk-13 l h q = q ∙ sym (inv ∙ by (dec_lt e (length file)))
    where
      e : ℕ
      e = at + line_len (drop at file)

      by : Dec (e < length file) → walk_of (seen file st) at k (lines (drop at file)) ≡ refused 13 at k 0
      by (yes p) = rw (line-more file at e (line_at file at l) (λ z. omega arith), is-end st.expect done)
      by (no p) =
          let g : length (drop at file) ≡ 0 → ⊥ = λ z. omega (arith, length-drop at file) in
          rw (line-none file at e (line_at file at l) (omega (arith, (line_at file at l).within)), is-end st.expect done, ne_eqb _ _ g)

-- ---- the state is kept

kept-first : (file : List ℕ) → Kept file 0 (closed 0 0 0 0 0 0 0)
kept-first file = record { known = omega arith; begun = λ z. absurd (let y : ⊥ = omega arith in y); within = omega arith; small = omega arith; few = omega arith; channels = omega arith; days = omega arith }

-- ---- the walk on its way

pub touring-first : (file : List ℕ) (day channel : ℕ) (st : State) (t : Tour) → st ≡ closed 0 0 0 0 0 0 0 → t ≡ first_tour day channel → length file ≤ 1048576
    → Touring file day channel st t
unfolding expected_as
touring-first file day channel st t es et h =
    rw (es, et)
    (record {
      short = h;
      within = omega arith;
      few = omega arith;
      kept = kept-first file;
      walked = walk_begins file h;
      heads = no-heads file no_under refl refl;
      ahead = ahead-first file day channel (seen file (closed 0 0 0 0 0 0 0)) refl refl;
      to-day = day-first file day;
      here = λ z. refl;
      passed = λ z. absurd (let o : ⊥ = omega arith in o);
      to-channel = channel-first file channel;
    })

-- over the record f that it was handed, with the step's answer
module _ (file : List ℕ) (day channel : ℕ) (st : State) (t : Tour) (g : Touring file day channel st t) (going : st.expect ≡ 9 → ⊥) (r : Option (ℕ × Found))
    (is : r ≡ record_at file t.at) (p : ℕ) (f : Found) (h : r ≡ Some (p, f)) where
  pub turn-few : t.records < f.end + 2
  turn-few = omega (arith, g.few, handed-order file t.at r is p f h)

  pub turn-less : (u : Tour) (s : State) → u ≡ turned_to t f.end (f.end + 2) s day channel → length file - u.at < length file - t.at
  turn-less u s e = rw e (omega (arith, handed-order file t.at r is p f h, handed-room file t.at r is p f h))

  module _ (w : Result State stop.Stop) (ew : step_as file w ≡ next_of (seen file st) (part file t.at f.end)) (hw : Holds file t.at f.end w) (s : State)
      (q : w ≡ Ok s) where
    pub turn-touring : (u : Tour) → u ≡ turned_to t f.end (f.end + 2) s day channel → Touring file day channel s u
    turn-touring u e =
        let room = handed-room file t.at r is p f h in
        let order = handed-order file t.at r is p f h in
        let v = under_to t f.end s in
        let b = under-turn file day channel t.at t.under v st r is p f h w ew s q g.ahead g.heads refl in
        let a = ahead-turn file day channel t.at t.under v st r is p f h w ew s q g.ahead refl in
        rw e
        (record {
          short = g.short;
          within = room;
          few = omega (arith, g.few, order);
          kept = kept_on file t.at f.end w hw s q;
          walked = walk-on file t.at t.records st r is g.kept.known going g.walked p f h w ew s q;
          heads = b;
          ahead = a;
          to-day = day-noted file day channel (f.end + 2) v (seen file s) room b a t.day _ g.to-day refl;
          here = λ z. rw (le-leb s.days day z);
          passed = λ z.
              rw (lt-leb s.days day z)
              (before-turn file day channel t.at t.under v st r is p f h w ew s q g.ahead refl t.before g.here g.passed z);
          to-channel = channel-noted file day channel (f.end + 2) v (seen file s) room b a t.channel _ g.to-channel refl;
        })

-- over the record, in the terms of what the walk was handed
module _ (file : List ℕ) (day channel : ℕ) (st : State) (t : Tour) (g : Touring file day channel st t) (going : st.expect ≡ 9 → ⊥) (r : Option (ℕ × Found))
    (is : r ≡ record_at file t.at) where
  pub turned-2 : (x : Refusal) → refused_as x ≡ refused 2 t.at t.records 0 → r ≡ None → check_of file ≡ refused_as x
  turned-2 x e h = z ∙ sym e
    where
      z : check_of file ≡ refused 2 t.at t.records 0
      z = walk_2 file t.at t.records st r is g.kept.known going g.walked h

  pub turned-stop : (p : ℕ) (f : Found) → r ≡ Some (p, f) → (w : Result State stop.Stop) → step_as file w ≡ next_of (seen file st) (part file t.at f.end) → (x : stop.Stop)
      → w ≡ Err x → (y : Refusal) → refused_as y ≡ refused x.number (t.at + x.place) t.records x.field → check_of file ≡ refused_as y
  turned-stop p f h w ew x q y e = z ∙ sym e
    where
      z : check_of file ≡ refused x.number (t.at + x.place) t.records x.field
      z = walk-stop file t.at t.records st r is g.kept.known going g.walked p f h w ew x q

-- behind the 900
module _ (file : List ℕ) (day channel : ℕ) (st : State) (t : Tour) (g : Touring file day channel st t) (done : st.expect ≡ 9) where
  pub ended-all : t.at ≡ length file → accepted (st.version ∷ st.channels ∷ st.days ∷ []) ≡ check_of file
  ended-all h = walk_end file t.at t.records st done g.walked _ _ _ h refl refl refl

  -- where the file is accepted, no record is left, so a day that isn't passed is none
  pub ended-before : (b : ℕ) → b ≡ t.before → ChannelsBefore file day b
  unfolding days_from
  ended-before b eb = by (dec_lt day st.days)
    where
      by : Dec (day < st.days) → ChannelsBefore file day b
      by (yes p) = rw eb (g.passed p)
      by (no p) = λ a d ds q. go (lines (drop t.at file)) (sym g.walked ∙ a.1) (sym (g.ahead.days (omega arith)) ∙ q)
        where
          go : {xs : List ℕ} {d : DayRows} {ds : List DayRows} → (ls : Lines) → walk_of (seen file st) t.at t.records ls ≡ accepted xs
              → drop (day - st.days) (days_from t.at (channel_at file t.under) ls) ≡ d ∷ ds → length (totals_in file) ≡ b + length (totals_at file d.block.top.place)
          go (rest z) k q = absurd (let w : ◌≡◌ {A = List DayRows} [] (_ ∷ _) = (rw drop-nil at q) in let x : true ≡ false = cc in true≢false x)
          go (line z ls) k q =
              let w = goes_on_lem (seen file st) t.at t.records z ls _ k in
              absurd (true≢false (sym (is-end st.expect done) ∙ not-ended (seen file st).expect (kind_in (fields z)) w.fit.may))

  pub ended-13 : (t.at ≡ length file → ⊥) → refused 13 t.at t.records 0 ≡ check_of file
  ended-13 h = walk-13 file t.at t.records st done g.walked g.within h refl

-- a refusal, and what is noted beside it
module _ (file : List ℕ) (day channel : ℕ) (x : Refusal) (r : Noted) (er : r ≡ record { answer = Err x; day = first_day day; before = 0; channel = first_channel channel }) where
  pub refused-answer : check_of file ≡ refused_as x → checked_as r.answer ≡ check_of file
  refused-answer h = ap (λ (z : Noted). checked_as z.answer) er ∙ sym h

  pub refused-day : DayAhead file day r.day
  refused-day = rw er (day-first file day)

  pub refused-before : check_of file ≡ refused_as x → ChannelsBefore file day r.before
  refused-before h = λ a d ds q. not-accepted x.number x.place x.«record» x.field a.0 (sym h ∙ a.1)

  pub refused-channel : ChannelAhead file channel r.channel
  refused-channel = rw er (channel-first file channel)
