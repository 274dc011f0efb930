-- Refusals 1 to 13, each with a file that gets it: rows that the definitions compute, but 1, which is of every longer file. Where two could be asked
-- in one record, the row has both, and so settles their order. Assumes nothing.
use Prim.Native.Nat.{ℕ, ◌<◌}
use Prim.Native.String.{String}
use mathlib.Core.Path.{◌≡◌, refl}
use mathlib.Core.List.{List, [], ◌∷◌, ◌++◌}
use lib.ListN.{length}
use borrow.Author.Tests.{lt-ltb}
use Rattle.ground.specs.Lists.{span_of, same}
use Rattle.ground.specs.Text.{bytes}
use Rattle.ground.specs.Digits.{is_digit}
use Rattle.format.specs.Bytes.{is_capital, capital, is_letter, is_alnum, end_space, is_text, are_all}
use Rattle.format.specs.Texts.{is_nmi, is_suffix, is_stream, is_party, is_configuration, is_register, is_serial, is_service_order, is_description, is_direction, is_trans_code, version_of}
use Rattle.format.specs.Numbers.{number_of, leading_zero, small_of, interval_of, is_length, length_of, intervals_of, reason_of, fraction_of, value_of, are_digits, is_read, is_index_read}
use Rattle.format.specs.Units.{units, same_letters, unit_from, unit_of, unit_at, decimals_of, decimals_named}
use Rattle.format.specs.Dates.{is_leap, days_in_month, is_day, is_date, day_after, is_time, is_minute, date_of, time_of, created_of, next_read_of, load_of, is_read_time, taken_of, read_time_of}
use Rattle.format.specs.Quality.{stands_alone, takes_method, quality_of, needs_reason, across, same_mark}
use Rattle.format.specs.Cut.{lines, fields, start_of}
use Rattle.format.specs.Records.{is_kind, indicator_of, kind_in, row_of, count_of, rule_of, obeys, version_in, decimals_in, intervals_in, quantity_decimals, date_in, first_in, last_in, read_time_in, qualities_of, mark_at, agrees}
use Rattle.format.specs.Order.{is_varied, alike_with, after_of}
use Rattle.format.specs.Faults.{is_open, fault_in, broken_in, is_not_later, covers, is_off, is_alike, on_day, is_elsewhere, fault_at, fault_of}
use Rattle.format.specs.Answers.{accepted, refused}
use Rattle.format.specs.File.{walk_of, check_of}
use Rattle.format.specs.Settled.{records, varied}

-- a 100, a 250 and a 900
abbrev pub thirteen : List ℕ
thirteen =
    records
    ("100,NEM13,200401011200,MDP1,RETAILER"
    ∷ "250,NEM1234567,E1,1,E1,N1,METER1,E,1,20040101000000,A,,,2,20040201000000,A,,,1,kWh,,20040202000000,"
    ∷ "900"
    ∷ [])

-- a half-hour channel with two days, the first on 20040101
abbrev two : String → List ℕ
two date =
    records ("100,NEM12,200401011200,MDP1,RETAILER" ∷ "200,NEM1234567,E1,1,E1,N1,METER1,kWh,30," ∷ [])
    ++ day "20040101"
    ++ day date
    ++ records ("900" ∷ [])
  where
    day : String → List ℕ
    day d =
        bytes "300," ++ bytes d
        ++ records (",1,1,1,1,1,1,1,1,1,1,1,1,1,1,1,1,1,1,1,1,1,1,1,1,1,1,1,1,1,1,1,1,1,1,1,1,1,1,1,1,1,1,1,1,1,1,1,1,A,,,20040102010203," ∷ [])

pub record Refusals : Type 0 where
  pub r1 : (file : List ℕ) → 1048576 < length file → check_of file ≡ refused 1 0 0 0
  pub r2 : check_of [] ≡ refused 2 0 0 0
  -- 2 before 3
  pub bare-lf : check_of (10 ∷ []) ≡ refused 2 0 0 0
  -- 3 before 4
  pub r3 : check_of (49 ∷ 13 ∷ 13 ∷ 10 ∷ []) ≡ refused 3 1 0 0
  pub r4 : check_of (records ("900" ∷ [])) ≡ refused 4 0 0 0
  -- 5 before 6
  pub r5 : check_of (records ("100,NEM14" ∷ [])) ≡ refused 5 0 0 0
  -- the leftmost of two
  pub r6 : check_of (records ("100,NEM12,200413011200,MDP1,RETAILER ONE" ∷ [])) ≡ refused 6 10 0 3
  -- 6 before 7: the description ends in a space, and S14 has no reason
  pub six-before-seven : check_of (varied ("400,1,24,S14,,x " ∷ [])) ≡ refused 6 224 3 6
  -- 7 before 9
  pub r7 : check_of (varied ("400,2,24,S14,," ∷ [])) ≡ refused 7 219 3 4
  pub r8 : check_of (two "20040101") ≡ refused 8 214 3 2
  pub r8-not : check_of (two "20040102") ≡ accepted (12 ∷ 1 ∷ 2 ∷ [])
  pub r9 : check_of (varied ("400,2,48,A,," ∷ [])) ≡ refused 9 214 3 2
  pub r10 : check_of (varied ("400,1,47,A,," ∷ [])) ≡ refused 10 224 4 0
  pub r11 : check_of (varied ("400,1,48,A,," ∷ [])) ≡ refused 11 210 3 0
  -- the descriptions differ
  pub r11-not : check_of (varied ("400,1,24,A,,x" ∷ "400,25,48,A,,y" ∷ [])) ≡ accepted (12 ∷ 1 ∷ 1 ∷ [])
  -- the day's own midnight, and the next one
  pub r12 : check_of (varied ("400,1,31,A,," ∷ "400,32,48,E52,," ∷ "500,O,,20040101000000," ∷ [])) ≡ refused 12 248 5 4
  pub r12-not : check_of (varied ("400,1,31,A,," ∷ "400,32,48,E52,," ∷ "500,O,,20040102000000," ∷ [])) ≡ accepted (12 ∷ 1 ∷ 1 ∷ [])
  pub r13 : check_of (thirteen ++ 32 ∷ []) ≡ refused 13 144 3 0
  pub none : check_of thirteen ≡ accepted (13 ∷ 1 ∷ 0 ∷ [])

pub refusals : Refusals
unfolding span_of same is_digit is_capital capital is_letter is_alnum end_space is_text are_all is_nmi is_suffix is_stream is_party is_configuration is_register is_serial is_service_order is_description is_direction is_trans_code version_of number_of leading_zero small_of interval_of is_length length_of intervals_of reason_of fraction_of value_of are_digits is_read is_index_read units same_letters unit_from unit_of unit_at decimals_of decimals_named is_leap days_in_month is_day is_date day_after is_time is_minute date_of time_of created_of next_read_of load_of is_read_time taken_of read_time_of stands_alone takes_method quality_of needs_reason across same_mark lines fields start_of is_kind indicator_of kind_in row_of count_of rule_of obeys version_in decimals_in intervals_in quantity_decimals date_in first_in last_in read_time_in qualities_of mark_at agrees is_varied alike_with after_of is_open fault_in broken_in is_not_later covers is_off is_alike on_day is_elsewhere fault_at fault_of walk_of check_of
refusals =
    record {
      r1 = λ file h. rw (lt-ltb _ _ h);
      r2 = refl;
      bare-lf = refl;
      r3 = refl;
      r4 = refl;
      r5 = refl;
      r6 = refl;
      six-before-seven = refl;
      r7 = refl;
      r8 = refl;
      r8-not = refl;
      r9 = refl;
      r10 = refl;
      r11 = refl;
      r11-not = refl;
      r12 = refl;
      r12-not = refl;
      r13 = refl;
      none = refl;
    }
