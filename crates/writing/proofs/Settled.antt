-- 01, Settled cases, the day that is written whole: "date 20030922, length 30, intervals 1 to 20 value 3 quality A, 21 to 48 value 4 quality E52, no reasons, update
-- 20030922092231, no load time. [..] That is 161 bytes." Each row is closed by computation. Assumes nothing.
use Prim.Native.Nat.{ℕ}
use mathlib.Core.Path.{◌≡◌, refl}
use mathlib.Core.List.{List, [], ◌∷◌, ◌++◌}
use lib.ListN.{replicate}
use Rattle.ground.specs.Lists.{same, from}
use Rattle.ground.specs.Text.{bytes}
use Rattle.ground.specs.Digits.{padded, width_from, width, dec}
use Rattle.ground.specs.Runs.{glue, runs}
use Rattle.format.specs.Bytes.{field_byte, end_space, is_text}
use Rattle.format.specs.Texts.{is_description}
use Rattle.format.specs.Numbers.{is_length, intervals_of, no_reason}
use Rattle.format.specs.Units.{units, is_unit, unit_at, decimals_of}
use Rattle.format.specs.Dates.{is_leap, days_in_month, is_day, is_date, is_time}
use Rattle.format.specs.Quality.{stands_alone, takes_method, no_method, needs_reason, across, same_mark}
use Rattle.format.specs.Records.{agrees}
use Rattle.format.specs.Day.{enough_for}
use Rattle.format.specs.Answers.{accepted, refusal}
use Rattle.format.specs.Block.{Given, given, intervals_given, mark_given, day_given, fit_quality, fit_reason, fit_mark, small_value, fit_value, fit_day, is_inside, fit_given, fraction_text, value_text, quality_text, reason_text, load_text, crlf, mark_text, values_text, run_text, cover_text, runs_in, is_uniform, top_text, tail_text, block_of, records_of, enough, write_of, room_of}

-- in kWh
abbrev day : Given
day =
    given (record { date = 20030922; length = 30; update = 20030922092231; load = 0; unit = 1 })
    (replicate 20 3000000 ++ replicate 28 4000000)
    (replicate 20 65 ++ replicate 28 69)
    (replicate 20 no_method ++ replicate 28 52)
    (replicate 48 no_reason) (replicate 48 0) (replicate 48 0) []

abbrev block : List ℕ
block =
    bytes "300,20030922,3,3,3,3,3,3,3,3,3,3,3,3,3,3,3,3,3,3,3,3,4,4,4,4,4,4,4,4,4,4,4,4,4,4,4,4,4,4,4,4,4,4,4,4,4,4,4,4,V,,,20030922092231," ++ crlf
    ++ bytes "400,1,20,A,," ++ crlf ++ bytes "400,21,48,E52,," ++ crlf

pub record Settled : Type 0 where
  pub written : write_of day 161 ≡ accepted (161 ∷ 3 ∷ [])
  pub byte-for-byte : room_of day (replicate 161 0) ≡ block
  pub tail-kept : room_of day (replicate 163 7) ≡ block ++ 7 ∷ 7 ∷ []
  pub one-byte-short : write_of day 160 ≡ refusal 15
  pub room-kept : room_of day (replicate 160 7) ≡ replicate 160 7

pub settled : Settled
unfolding same from padded width_from width dec glue runs field_byte end_space is_text is_description is_length intervals_of units is_unit unit_at decimals_of is_leap days_in_month is_day is_date is_time stands_alone takes_method needs_reason across same_mark agrees enough_for intervals_given mark_given day_given fit_quality fit_reason fit_mark small_value fit_value fit_day is_inside fit_given fraction_text value_text quality_text reason_text load_text mark_text values_text run_text cover_text runs_in is_uniform top_text tail_text block_of records_of enough write_of room_of
settled = record { written = refl; byte-for-byte = refl; tail-kept = refl; one-byte-short = refl; room-kept = refl }
