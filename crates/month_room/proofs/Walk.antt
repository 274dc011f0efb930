-- The walk over the days of a call: at a day, what it is refused with, or how the others go on. Assumes nothing.
use Prim.Native.Nat.{ℕ, suc, ◌+◌, ◌-◌, ◌≤◌, ◌<◌}
use mathlib.Core.Path.{◌≡◌, sym, ◌∙◌}
use mathlib.Core.List.{List}
use native.Mathlib.Nat.{add-zero, sub-zero}
use Rattle.std.proofs.Common.{Option, Some, None}
use native.Mathlib.Omega.{arith}
use lib.ListN.{drop}
use lib.Seq.{drop-drop}
use borrow.Author.Tests.{le-leb, lt-leb}
use Rattle.ground.specs.Lists.{part}
use Rattle.format.specs.Cut.{fields}
use Rattle.format.specs.Records.{intervals_in}
use Rattle.format.specs.Day.{days_of}
use Rattle.day.specs.Places.{DayAhead, located, Behind}
use Rattle.day.specs.declared.DayStart.{DayStart}
use Rattle.day.specs.declared.Place.{Place}
use Rattle.month_room.specs.Room.{fault_of}

-- before the first day
pub at_first : (file : List ℕ) (first : ℕ) (r : DayStart) → DayAhead file first r → DayAhead file (first + 0) r
at_first file first r a = rw (add-zero first) a

pub none_yet_lem : (file : List ℕ) (first last room places : ℕ) → fault_of (last + 1 - (first + 0)) (drop (first + 0) (days_of file)) room (places - 0)
    ≡ fault_of (last + 1 - first) (drop first (days_of file)) room places
none_yet_lem file first last room places = rw (add-zero first, sub-zero places)

module _ (file : List ℕ) (first last i : ℕ) (p : Option Place) (ep : located file p ≡ drop (first + i) (days_of file)) where
  -- the day behind it
  pub ahead : (r : DayStart) → Behind file p r → DayAhead file (first + (i + 1)) r
  ahead r b =
      let z : first + (i + 1) ≡ first + i + 1 = omega arith in
      rw z (record { within = b.within; heads = b.heads; is = sym (drop-drop 1 (first + i) (days_of file)) ∙ rw (← ep) b.is })

  -- x is what all the days of the call are refused with
  module _ (h : first + i ≤ last) (room places x : ℕ) (ex : fault_of (last + 1 - (first + i)) (drop (first + i) (days_of file)) room (places - i) ≡ x) where
    left-some : last + 1 - (first + i) ≡ suc (last - (first + i))
    left-some = omega arith

    pub fault-missing : p ≡ None → 14 ≡ x
    unfolding fault_of
    fault-missing e = rw (left-some, ← ep, e) at ex

    module _ (n : ℕ) (q : Place) (eu : p ≡ Some q) (en : n ≡ intervals_in (fields (part file q.under.at q.under.end))) where
      pub fault-long : room < n → 15 ≡ x
      unfolding fault_of
      fault-long l = rw (left-some, ← ep, eu, ← en, lt-leb n room l) at ex

      module _ (l : n ≤ room) where
        pub fault-places : places ≤ i → 15 ≡ x
        unfolding fault_of
        fault-places z = let q : places - i ≡ 0 = omega arith in rw (left-some, ← ep, eu, ← en, le-leb n room l, q) at ex

        module _ (z : i < places) where
          one : 1 ≤ places - i
          one = omega arith

          fault-goes : fault_of (last - (first + i)) (drop (first + i + 1) (days_of file)) (room - n) (places - i - 1) ≡ x
          unfolding fault_of
          fault-goes = rw (← drop-drop 1 (first + i) (days_of file), ← ep, eu) (rw (left-some, ← ep, eu, ← en, le-leb n room l, le-leb 1 (places - i) one) at ex)

          pub fault-none : first + i ≡ last → 0 ≡ x
          unfolding fault_of
          fault-none q = let o : last - (first + i) ≡ 0 = omega arith in rw o at fault-goes

          pub fault-on : fault_of (last + 1 - (first + (i + 1))) (drop (first + (i + 1)) (days_of file)) (room - n) (places - (i + 1)) ≡ x
          fault-on =
              let o : last + 1 - (first + (i + 1)) ≡ last - (first + i) = omega arith in
              let d : first + (i + 1) ≡ first + i + 1 = omega arith in
              let q : places - (i + 1) ≡ places - i - 1 = omega arith in
              rw (o, d, q) fault-goes
