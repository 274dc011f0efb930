-- The block of a day that a put lets in: its check accepts it behind its own interval length and unit, and the day that is read from it is the day. Assumes nothing.
use Prim.Native.Nat.{ℕ, ◌/◌, ◌%◌, ◌≤◌}
use mathlib.Core.Path.{◌≡◌, refl, sym, ap, ◌∙◌}
use mathlib.Core.List.{List, [], ◌∷◌, map}
use native.Mathlib.Omega.{arith}
use lib.ListN.{length}
use Rattle.format.specs.Numbers.{intervals_of}
use Rattle.format.specs.Units.{decimals_of}
use Rattle.format.specs.Dates.{is_date}
use Rattle.format.specs.Cut.{lines}
use Rattle.format.specs.Records.{unit_in, intervals_in}
use Rattle.format.specs.Order.{Due}
use Rattle.format.specs.Answers.{accepted}
use Rattle.format.specs.Faults.{is_open}
use Rattle.format.specs.File.{behind200, block_check_of}
use Rattle.format.specs.Day.{Row, days_from, Day, day_of}
use Rattle.format.specs.Block.{Given, intervals_given, day_given, block_of}
use Rattle.format.proofs.Numbers.{intervals-some}
use Rattle.format.proofs.Dates.{day-is}
use Rattle.store.specs.Calls.{rows_at, write_answer}
use Rattle.passing.proofs.Writes.{written-length, written-lists, written-fit}
use Rattle.passing.proofs.Steps.{block_found}
use Rattle.passing.proofs.Blocks.{headed, one-day}
use Rattle.passing.proofs.Alone.{alone, anywhere-alone}
use Rattle.theorems.specs.Days.{record_at, meant}
use Rattle.shortest.specs.Writer.{Writable, AwaitsGiven, ReadsBack}
use Rattle.shortest.proofs.Handed.{whole}
use Rattle.shortest.proofs.Back.{parts}
use Rattle.shortest.proofs.Place.{head_written, head-intervals, head-unit}
use Rattle.shortest.proofs.Theorems.{unit-known, reads-back}

-- what the writer accepts
pub writable : (g : Given) (xs : List ℕ) → write_answer g ≡ accepted xs → Writable g
writable g xs e =
    let k = length (block_of (day_given g)) in
    record { length-known = written-length g k xs e; lists-long = written-lists g k xs e; fit = written-fit g k xs e }

module _ (g : Given) (w : Writable g) where
  abbrev d : Day
  d = day_given g

  -- behind a 200 of its interval length and unit
  abbrev st : Due
  st = behind200 (intervals_given g) (decimals_of g.head.unit)

  awaits : AwaitsGiven g st
  unfolding day_given is_date is_open
  awaits =
      let t : ℕ = g.head.date in
      let z : 1 ≤ t = omega (arith, (day-is (t / 10000) (t / 100 % 100) (t % 100) (parts (day_given g) (whole g w).fit).date).from) in
      record { free = (refl, refl); intervals = refl; decimals = refl; earlier = z }

  unit-is : g.head.unit ≡ d.unit
  unfolding day_given
  unit-is = refl

  back : ReadsBack d st
  back = reads-back g w st awaits

  -- its check accepts it
  pub check : (xs : List ℕ) × (block_check_of g.head.length g.head.unit (block_of d) ≡ accepted xs)
  unfolding intervals_given
  check =
      let v = anywhere-alone g.head.length g.head.unit (block_of d) st (intervals-some g.head.length w.length-known) (unit-known g w) refl refl back.accepted in
      (_, (alone g.head.length g.head.unit (block_of d) _ _ _ _ _).1 v.3)

  -- the day that is read from it, at any place
  pub day-back : (p : ℕ) → day_of (rows_at (intervals_of g.head.length) g.head.unit p (lines (block_of d))) ≡ d
  unfolding rows_at intervals_given
  day-back p =
      let b : List ℕ = block_of d in
      let k = headed st b back.accepted in
      let c : Row = record_at 0 (head_written g.head.length g.head.unit) in
      let z = intervals-some g.head.length w.length-known in
      let i : intervals_in c.cells ≡ intervals_of g.head.length = head-intervals g.head.length g.head.unit z (unit-known g w) in
      let v : unit_in c.cells ≡ g.head.unit = head-unit g.head.length g.head.unit z (unit-known g w) in
      let r : map meant (days_from p c (lines b)) ≡ d ∷ [] = back.same p c i (v ∙ unit-is) in
      let o : day_of (block_found p k.first k.others (intervals_in c.cells) (unit_in c.cells)) ∷ [] ≡ d ∷ [] = sym (ap (map meant) (one-day st b back.accepted p c)) ∙ r in
      let q : day_of (block_found p k.first k.others (intervals_in c.cells) (unit_in c.cells)) ≡ d = cc in
      rw k.is (rw (i, v) at q)
