-- The ways out of a call: no day asked for, a day refused, all of them read. Assumes nothing.
use Prim.Native.Nat.{ℕ, ◌+◌, ◌-◌, ◌≤◌, ◌<◌}
use mathlib.Core.Path.{◌≡◌, refl, sym, ◌∙◌}
use mathlib.Core.Logic.{◌≢◌}
use mathlib.Core.List.{List, [], ◌∷◌}
use mathlib.Core.Bool.{Bool, true, false, ◌&&◌}
use Rattle.std.proofs.Common.{Result, Err}
use native.Mathlib.Omega.{arith}
use lib.ListN.{length, drop}
use lib.Dec.{leb}
use Rattle.format.specs.Answers.{Answer, accepted, refusal, refused_as, checked_as}
use Rattle.format.specs.File.{check_of, IsAccepted}
use Rattle.format.specs.Day.{Five, days_of, enough_for}
use Rattle.format.specs.declared.Refusal.{Refusal}
use Rattle.format.specs.declared.Checked.{Checked}
use Rattle.passing.specs.Sound.{are_sound}
use Rattle.passing.proofs.Days.{checked-days}
use Rattle.filling.proofs.Cases.{are_sound-drop}
use Rattle.day.specs.Places.{DayAhead}
use Rattle.day.specs.declared.DayStart.{DayStart}
use Rattle.months.specs.Month.{Daily, Lent, lent, places_for, read, in_turn, days_left, wholly, month_of}
use Rattle.month_room.specs.Room.{fault_of, fault_in, Holds}
use Rattle.month_room.proofs.Held.{fault-held}
use Rattle.month_lists.specs.Laid.{Fits}
use Rattle.month_lists.proofs.Stops.{stops}

twice : (a b : Bool) → ((a && b) && b) ≡ (a && b)
twice true true = refl
twice true false = refl
twice false b = refl

-- the shortest of each kind of list
pub held : (room places : ℕ) (vs : List ℕ) (ms : Five) (ds : Daily)
    → ((n : ℕ) → enough_for n (length vs) (length ms.flags) (length ms.methods) (length ms.reasons) (length ms.starts) (length ms.lengths) ≡ leb n room)
    → ((n : ℕ) → enough_for n (length ds.dates) (length ds.counts) (length ds.updates) (length ds.loads) (length ds.units) (length ds.units) ≡ leb n places)
    → Holds (lent vs ms ds) room places
unfolding enough_for places_for
held room places vs ms ds r p = record { long = r; daily = λ i. sym (twice (leb i (length ds.dates) && leb i (length ds.counts) && leb i (length ds.updates) && leb i (length ds.loads)) (leb i (length ds.units))) ∙ p i }

module _ (file : List ℕ) (first last : ℕ) (w : Lent) where
  pub none-asked : last < first → days_left (accepted (0 ∷ 0 ∷ [])) w ≡ wholly (in_turn file (last + 1 - first) first w) w
  unfolding in_turn
  none-asked h = let e : last + 1 - first ≡ 0 = omega arith in rw e

  module _ (ac : IsAccepted file) (room places x : ℕ) (h : Holds w room places) (e : x ≡ fault_of (last + 1 - first) (drop first (days_of file)) room places) where
    pub refused-so : (a : Answer) → x ≢ 0 → a ≡ refusal x → days_left a w ≡ wholly (in_turn file (last + 1 - first) first w) w
    refused-so a ne ea =
        let s : are_sound (drop first (days_of file)) ≡ true = are_sound-drop first (days_of file) (checked-days file ac.0 ac.1) in
        let q : fault_in (last + 1 - first) (drop first (days_of file)) w ≡ x = fault-held (last + 1 - first) (drop first (days_of file)) w room places h ∙ sym e in
        rw (ea, stops file _ ac.1 (last + 1 - first) first w (drop first (days_of file)) x refl s q ne)

    pub all_fit : (from : DayStart) → x ≡ 0 → first ≤ last → DayAhead file first from → Fits file first last from w
    all_fit from z o a =
        record { accepted = ac; order = o; ahead = a; room = fault-held (last + 1 - first) (drop first (days_of file)) w room places h ∙ sym e ∙ z }

  pub read-so : (d k : ℕ) (v : Lent) → read d k v ≡ in_turn file (last + 1 - first) first w → days_left (accepted (d ∷ k ∷ [])) v ≡ wholly (in_turn file (last + 1 - first) first w) w
  read-so d k v q = rw (← q)

  -- the file's own refusal, or the days of a file that is accepted
  pub file-refused : (c : Result Checked Refusal) → checked_as c ≡ check_of file → (x : Refusal) → c ≡ Err x → days_left (refused_as x) w ≡ month_of file first last w
  unfolding month_of
  file-refused c e x h = rw (← e, h)

  pub file-read : IsAccepted file → (a : Answer) (v : Lent) → days_left a v ≡ wholly (in_turn file (last + 1 - first) first w) w → days_left a v ≡ month_of file first last w
  unfolding month_of
  file-read ac a v q = rw ac.1 q
