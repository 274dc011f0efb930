-- 01, Records, the table: for each kind of record its fields in their order, and with them how many they are; and what 01 reads off single fields.
use Rattle.std.specs.Prelude.{ℕ, ◌+◌, List, [], ◌∷◌, ◌++◌, map, Bool, true, cond, ◌||◌, length, get_or, take, drop, replicate, eqb, Option}
use Rattle.format.specs.Texts.{is_nmi, is_suffix, is_stream, is_party, is_configuration, is_register, is_serial, is_service_order, is_description, is_direction, is_trans_code, version_of}
use Rattle.format.specs.Numbers.{is_number, number_in, that, number_of, interval_of, length_of, intervals_of, reason_of, decimals, value_of, is_read, is_index_read}
use Rattle.format.specs.Units.{unit_of, decimals_named}
use Rattle.format.specs.Dates.{date_of, time_of, created_of, next_read_of, load_of, read_time_of}
use Rattle.format.specs.Quality.{quality_of, is_graded, flag_in, method_in, across, Mark}
use Rattle.format.specs.Cut.{field}
use Rattle.format.specs.declared.Rule.{Rule}
use Rattle.format.specs.declared.Rule.TheVariants.{Indicator, Version, Created, Party, Nmi, Configuration, Register, Suffix, Stream, Serial, Unit, Length, NextRead, Date, Value, Quality, Reason, Description, Time, Load, Interval, TransCode, ServiceOrder, ReadTime, IndexRead, Direction, RegisterRead}

-- ---- kinds

unfoldable pub is_kind : ℕ → Bool
is_kind k = eqb k 100 || eqb k 200 || eqb k 300 || eqb k 400 || eqb k 500 || eqb k 250 || eqb k 550 || eqb k 900

-- the indicator that a field is
unfoldable pub indicator_of : List ℕ → Option ℕ
indicator_of s = that is_kind (number_of 3 3 s)

-- the kind that the first field says, 0 where it is no indicator
unfoldable pub kind_in : List (List ℕ) → ℕ
kind_in fs = number_in (indicator_of (field 0 fs))

-- ---- the table

-- what the rules of a record are made from, beside its kind: n, the number of a 300's intervals, and how many decimals its values may have (02, 8)
pub record Scale : Type 0 where
  pub n : ℕ
  pub decimals : ℕ

abbrev pub scale : ℕ → ℕ → Scale
scale n d = record { n = n; decimals = d }

-- where neither counts
abbrev pub no_scale : Scale
no_scale = scale 0 0

abbrev pub row100 : List Rule
row100 = Indicator ∷ Version ∷ Created ∷ Party ∷ Party ∷ []

abbrev pub row200 : List Rule
row200 = Indicator ∷ Nmi ∷ Configuration ∷ Register ∷ Suffix ∷ Stream ∷ Serial ∷ Unit ∷ Length ∷ NextRead ∷ []

abbrev pub row300 : Scale → List Rule
row300 z = Indicator ∷ Date ∷ (replicate z.n (Value z.decimals) ++ (Quality ∷ Reason ∷ Description ∷ Time ∷ Load ∷ []))

abbrev pub row400 : List Rule
row400 = Indicator ∷ Interval ∷ Interval ∷ Quality ∷ Reason ∷ Description ∷ []

abbrev pub row500 : List Rule
row500 = Indicator ∷ TransCode ∷ ServiceOrder ∷ ReadTime ∷ IndexRead ∷ []

-- read, time, quality, reason, description
abbrev pub reading : List Rule
reading = RegisterRead ∷ Time ∷ Quality ∷ Reason ∷ Description ∷ []

abbrev pub row250 : ℕ → List Rule
row250 d =
    Indicator ∷ Nmi ∷ Configuration ∷ Register ∷ Suffix ∷ Stream ∷ Serial ∷ Direction
    ∷ (reading ++ (reading ++ (Value d ∷ Unit ∷ NextRead ∷ Time ∷ Load ∷ [])))

abbrev pub row550 : List Rule
row550 = Indicator ∷ TransCode ∷ ServiceOrder ∷ TransCode ∷ ServiceOrder ∷ []

abbrev pub row900 : List Rule
row900 = Indicator ∷ []

-- the fields of a record of the kind k
unfoldable pub row_of : ℕ → Scale → List Rule
row_of k z =
    cond (eqb k 100) row100
    (cond (eqb k 200) row200
    (cond (eqb k 300) (row300 z)
    (cond (eqb k 400) row400
    (cond (eqb k 500) row500
    (cond (eqb k 250) (row250 z.decimals)
    (cond (eqb k 550) row550 row900))))))

unfoldable pub count_of : ℕ → Scale → ℕ
count_of k z = length (row_of k z)

-- the rule of the field of a number from 0
unfoldable pub rule_of : ℕ → Scale → ℕ → Rule
rule_of k z i = get_or (row_of k z) i Indicator

-- a field of a record of the kind k meets its rule
unfoldable pub obeys : ℕ → Rule → List ℕ → Bool
obeys k Indicator s = true
obeys k Version s = is_number (version_of s)
obeys k Created s = is_number (created_of s)
obeys k Party s = is_party s
obeys k Nmi s = is_nmi s
obeys k Configuration s = is_configuration s
obeys k Register s = is_register s
obeys k Suffix s = is_suffix s
obeys k Stream s = is_stream s
obeys k Serial s = is_serial s
obeys k Unit s = is_number (unit_of s)
obeys k Length s = is_number (length_of s)
obeys k NextRead s = is_number (next_read_of s)
obeys k Date s = is_number (date_of s)
obeys k (Value d) s = is_number (value_of d s)
obeys k Quality s = is_graded (quality_of k s)
obeys k Reason s = is_number (reason_of s)
obeys k Description s = is_description s
obeys k Time s = is_number (time_of s)
obeys k Load s = is_number (load_of s)
obeys k Interval s = is_number (interval_of s)
obeys k TransCode s = is_trans_code s
obeys k ServiceOrder s = is_service_order s
obeys k ReadTime s = is_number (read_time_of s)
obeys k IndexRead s = is_index_read s
obeys k Direction s = is_direction s
obeys k RegisterRead s = is_read s

-- ---- what single fields say, by the field's number from 0

-- a 100's version
abbrev pub version_field : ℕ
version_field = 1

unfoldable pub version_in : List (List ℕ) → ℕ
version_in fs = number_in (version_of (field version_field fs))

-- a 200's unit: its number, and how many decimals its values may have
abbrev pub unit_field : ℕ
unit_field = 7

unfoldable pub unit_in : List (List ℕ) → ℕ
unit_in fs = number_in (unit_of (field unit_field fs))

unfoldable pub decimals_in : List (List ℕ) → ℕ
decimals_in fs = decimals_named (field unit_field fs)

-- a 200's n
abbrev pub length_field : ℕ
length_field = 8

unfoldable pub intervals_in : List (List ℕ) → ℕ
intervals_in fs = intervals_of (number_in (length_of (field length_field fs)))

-- a 300's date, values, update time and load time, where it has n intervals
abbrev pub date_field : ℕ
date_field = 1

abbrev pub first_value : ℕ
first_value = 2

abbrev pub update_field : ℕ → ℕ
update_field n = n + 5

abbrev pub load_field : ℕ → ℕ
load_field n = n + 6

unfoldable pub date_in : List (List ℕ) → ℕ
date_in fs = number_in (date_of (field date_field fs))

-- a value as its number of millionths, whatever its unit: how many decimals it may have makes no other number of it
unfoldable pub millionths : List ℕ → ℕ
millionths s = number_in (value_of decimals s)

unfoldable pub values_in : ℕ → List (List ℕ) → List ℕ
values_in n fs = map millionths (take n (drop first_value fs))

unfoldable pub update_in : ℕ → List (List ℕ) → ℕ
update_in n fs = number_in (time_of (field (update_field n) fs))

unfoldable pub load_in : ℕ → List (List ℕ) → ℕ
load_in n fs = number_in (load_of (field (load_field n) fs))

-- a 400's first and last interval
abbrev pub first_field : ℕ
first_field = 1

abbrev pub last_field : ℕ
last_field = 2

unfoldable pub first_in : List (List ℕ) → ℕ
first_in fs = number_in (interval_of (field first_field fs))

unfoldable pub last_in : List (List ℕ) → ℕ
last_in fs = number_in (interval_of (field last_field fs))

-- a 500's read time, 0 if it has none
abbrev pub read_time_field : ℕ
read_time_field = 3

unfoldable pub read_time_in : List (List ℕ) → ℕ
read_time_in fs = number_in (read_time_of (field read_time_field fs))

-- a 250's quantity, and how many decimals it may have by the unit in the field behind it
abbrev pub quantity_field : ℕ
quantity_field = 18

unfoldable pub quantity_in : List (List ℕ) → ℕ
quantity_in fs = millionths (field quantity_field fs)

abbrev pub quantity_unit_field : ℕ
quantity_unit_field = 19

unfoldable pub quantity_decimals : List (List ℕ) → ℕ
quantity_decimals fs = decimals_named (field quantity_unit_field fs)

-- what the rules of a record of the kind k are made from, in a channel of n intervals whose values have at most d decimals: both count in a 300 only, and a
-- 250 has its own unit
abbrev pub scale_for : ℕ → ℕ → ℕ → List (List ℕ) → Scale
scale_for k n d fs = cond (eqb k 300) (scale n d) (cond (eqb k 250) (scale 0 (quantity_decimals fs)) no_scale)

-- the quality of a 300 of n intervals, of a 400, and of a 250's previous and current read; a reason and a description stand behind each
abbrev pub quality300 : ℕ → ℕ
quality300 n = n + 2

abbrev pub quality400 : ℕ
quality400 = 3

abbrev pub previous_quality : ℕ
previous_quality = 10

abbrev pub current_quality : ℕ
current_quality = 15

unfoldable pub qualities_of : ℕ → ℕ → List ℕ
qualities_of k n =
    cond (eqb k 300) (quality300 n ∷ []) (cond (eqb k 400) (quality400 ∷ []) (cond (eqb k 250) (previous_quality ∷ current_quality ∷ []) []))

-- quality, reason and description of a record of the kind k, where the quality is field i
unfoldable pub mark_at : ℕ → ℕ → List (List ℕ) → Mark
mark_at k i fs =
    record {
      flag = flag_in (quality_of k (field i fs));
      method = method_in (quality_of k (field i fs));
      reason = number_in (reason_of (field (i + 1) fs));
      text = field (i + 2) fs;
    }

-- the mark of a 400
abbrev pub mark_in : List (List ℕ) → Mark
mark_in fs = mark_at 400 quality400 fs

-- a mark keeps the rules across fields
unfoldable pub agrees : Mark → Bool
agrees m = across m.flag m.reason (length m.text)
