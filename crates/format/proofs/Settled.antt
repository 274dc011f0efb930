-- The settled cases of 01 and 02: each row is closed by computation. Assumes nothing.
use mathlib.Core.Path.{refl}
use Rattle.ground.specs.Lists.{span_of, same}
use Rattle.ground.specs.Digits.{is_digit}
use Rattle.format.specs.Bytes.{is_capital, capital, is_letter, is_alnum, end_space, is_text, are_all}
use Rattle.format.specs.Texts.{is_nmi, is_suffix, is_stream, is_party, is_configuration, is_register, is_serial, is_service_order, is_description, is_trans_code, version_of}
use Rattle.format.specs.Numbers.{number_of, leading_zero, small_of, interval_of, is_length, length_of, intervals_of, reason_of, fraction_of, value_of, is_index_read}
use Rattle.format.specs.Units.{units, same_letters, unit_from, unit_of, unit_at, decimals_of, decimals_named}
use Rattle.format.specs.Dates.{is_leap, days_in_month, is_day, is_date, day_after, is_time, is_minute, date_of, time_of, created_of, next_read_of, load_of, is_read_time, taken_of, read_time_of}
use Rattle.format.specs.Quality.{stands_alone, takes_method, quality_of, needs_reason, across, same_mark}
use Rattle.format.specs.Cut.{lines, fields, start_of}
use Rattle.format.specs.Records.{is_kind, indicator_of, kind_in, row_of, count_of, rule_of, obeys, version_in, decimals_in, intervals_in, date_in, first_in, last_in, read_time_in, qualities_of, mark_at, agrees}
use Rattle.format.specs.Order.{is_varied, alike_with, after_of}
use Rattle.format.specs.Faults.{is_open, fault_in, broken_in, is_not_later, covers, is_off, is_alike, on_day, is_elsewhere, fault_at, fault_of}
use Rattle.format.specs.File.{walk_of, check_of}
use Rattle.format.specs.Settled.{Settled}

pub settled : Settled
unfolding span_of same is_digit is_capital capital is_letter is_alnum end_space is_text are_all is_nmi is_suffix is_stream is_party is_configuration is_register is_serial is_service_order is_description is_trans_code version_of number_of leading_zero small_of interval_of is_length length_of intervals_of reason_of fraction_of value_of is_index_read units same_letters unit_from unit_of unit_at decimals_of decimals_named is_leap days_in_month is_day is_date day_after is_time is_minute date_of time_of created_of next_read_of load_of is_read_time taken_of read_time_of stands_alone takes_method quality_of needs_reason across same_mark lines fields start_of is_kind indicator_of kind_in row_of count_of rule_of obeys version_in decimals_in intervals_in date_in first_in last_in read_time_in qualities_of mark_at agrees is_varied alike_with after_of is_open fault_in broken_in is_not_later covers is_off is_alike on_day is_elsewhere fault_at fault_of walk_of check_of
settled =
    record {
      held = refl;
      leading_zeros = refl;
      nought = refl;
      largest = refl;
      no_whole = refl;
      no_fraction = refl;
      eight-digits = refl;
      eight-before-point = refl;
      four = refl;
      five = refl;
      five-zeros = refl;
      capitals = refl;
      small-letters = refl;
      no-unit = refl;
      leap = refl;
      no-leap = refl;
      e52 = λ k. refl;
      small-v = λ k. refl;
      a14 = λ k. refl;
      null-in-300 = refl;
      null-in-400 = refl;
      null-in-250 = refl;
      n14 = refl;
      s14 = refl;
      covered = refl;
      gap = refl;
      past_the_end = refl;
      midnight = refl;
    }
