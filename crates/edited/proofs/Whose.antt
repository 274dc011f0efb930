-- What is found of a day, by the parts of its file: where its block starts and ends, its channel's number, and that its interval length and unit are those of
-- the state there. Assumes nothing.
use Prim.Native.Nat.{ℕ, ◌+◌, ◌-◌}
use mathlib.Core.Path.{◌≡◌, sym, ap, ◌∙◌}
use mathlib.Core.Logic.{◌≢◌}
use mathlib.Core.Bool.{true}
use mathlib.Core.List.{List, ◌++◌}
use native.Mathlib.Omega.{arith}
use lib.ListN.{length, take, drop}
use lib.Seq.{drop-append_seam, drop-append-add}
use Rattle.format.specs.Numbers.{is_number, intervals_of}
use Rattle.format.specs.Units.{unit_of, is_unit, decimals_of}
use Rattle.format.specs.Cut.{lines, field}
use Rattle.format.specs.Records.{no_scale, row_of, rule_of, count_of, obeys, length_field, unit_field, unit_in, decimals_in, intervals_in}
use Rattle.format.specs.Day.{DayRows, day_from}
use Rattle.format.specs.Total.{totals_from}
use Rattle.format.proofs.Units.{unit-in, unit-decimals}
use Rattle.passing.proofs.Blocks.{headed, one-day}
use Rattle.passing.proofs.Fit.{fine-unbroken}
use Rattle.passing.proofs.Parts.{Parts}
use Rattle.theorems.proofs.Says.{length_some}
use Rattle.whose.specs.Whose.{minutes_in, whose_is}
use Rattle.whose.proofs.Found.{before-is, channels-are}
use Rattle.whose.proofs.Ends.{block-end}

-- ---- by the parts

module _ (file : List ℕ) (day : ℕ) (d : DayRows) (p : Parts file day d) where
  pub take-before : take (length p.before) file ≡ p.before
  take-before = rw p.place at (before-is file day d p)

  pub drop_block : drop (length p.before + length p.block) file ≡ p.behind
  drop_block =
      ap (drop (length p.before + length p.block)) p.is
      ∙ drop-append-add p.before (p.block ++ p.behind) (length p.block)
      ∙ drop-append_seam p.block p.behind

  -- the day is its block's, under its own 200
  pub day-is : d ≡ day_from (length p.before) d.channel (headed p.st p.block p.accepted).first (headed p.st p.block p.accepted).others
  day-is = let e = sym p.rows ∙ one-day p.st p.block p.accepted (length p.before) d.channel in cc

  -- ---- what is found

  pub start_is : (whose_is file d).start ≡ length p.before
  unfolding whose_is
  start_is = p.place

  pub end_is : (whose_is file d).end ≡ length p.before + length p.block
  unfolding whose_is
  end_is = block-end file day d p

  pub channel-is : (whose_is file d).channel + 1 ≡ length (totals_from (lines p.before))
  unfolding whose_is
  channel-is = omega (arith, channels-are file day d p, p.counted, p.some)

  pub minutes-is : intervals_of (whose_is file d).minutes ≡ p.st.n
  unfolding whose_is minutes_in intervals_in
  minutes-is = p.intervals

  pub unit-is : (whose_is file d).unit ≡ unit_in d.channel.cells
  unfolding whose_is
  unit-is = ap (λ (x : DayRows). x.block.unit) day-is

  fields-are : length d.channel.cells ≡ 10
  unfolding count_of row_of
  fields-are = p.head.0

  named : is_number (unit_of (field unit_field d.channel.cells)) ≡ true
  unfolding row_of rule_of obeys
  named = fine-unbroken 200 no_scale 0 0 d.channel.cells p.head.1 unit_field (omega (arith, fields-are))

  pub unit-known : is_unit (whose_is file d).unit ≡ true
  unfolding unit_in
  unit-known = rw unit-is (unit-in (field unit_field d.channel.cells) named)

  pub length-known : intervals_of (whose_is file d).minutes ≢ 0
  unfolding row_of rule_of obeys
  length-known e =
      omega (arith, length_some d.channel.cells (fine-unbroken 200 no_scale 0 0 d.channel.cells p.head.1 length_field (omega (arith, fields-are))), minutes-is, p.intervals)

  pub decimals-are : decimals_of (whose_is file d).unit ≡ p.st.decimals
  unfolding unit_in decimals_in
  decimals-are = ap decimals_of unit-is ∙ sym (unit-decimals (field unit_field d.channel.cells) named) ∙ p.decimals
