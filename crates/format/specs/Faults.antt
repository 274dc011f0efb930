-- 01, Refusal numbers, the table from 3 to 12, one definition each, and their order: "In one record: 2, 3, 10, 4, 5, 6 (leftmost field), 7 (leftmost
-- quality), 8 or 9, 11 or 12." A fault's place counts from the record's start; the walk over the file adds the rest.
use Rattle.std.specs.Prelude.{ℕ, ◌+◌, ◌*◌, ◌/◌, ◌%◌, List, [], ◌∷◌, Bool, cond, not, ◌&&◌, ◌||◌, length, leb, ltb, eqb}
use Rattle.ground.specs.Lists.{span_of}
use Rattle.format.specs.Bytes.{plain}
use Rattle.format.specs.Dates.{day_after}
use Rattle.format.specs.Cut.{fields, start_of}
use Rattle.format.specs.Records.{Scale, scale_for, kind_in, count_of, rule_of, obeys, date_field, date_in, first_field, first_in, last_in, read_time_field, read_time_in, qualities_of, mark_at, agrees}
use Rattle.format.specs.Order.{Due, may_come, in_varied, alike_with}

-- the first fault of a record, its place counted from the record's start: number, place, field; or none
pub data Fault : Type 0 where
  Fine : Fault
  Stop : ℕ → ℕ → ℕ → Fault

infixr 30 ◌▹◌
-- the first of two faults
abbrev pub ◌▹◌ : Fault → Fault → Fault
Fine ▹ g = g
Stop x o i ▹ g = Stop x o i

-- where something is wrong: the refusal's number, the place from the record's start, the field's number from 1 or 0
abbrev pub stop : Bool → ℕ → ℕ → ℕ → Fault
stop wrong x o i = cond wrong (Stop x o i) Fine

-- "byte outside 0x20 to 0x7E in the record, a lone CR or LF too": that byte
abbrev pub f3 : List ℕ → Fault
f3 r = stop (ltb (span_of plain r) (length r)) 3 (span_of plain r) 0

-- "a V day's cover isn't complete and this record isn't a 400": the cover is complete once the next interval is past n
unfoldable pub is_open : Due → ℕ → Bool
is_open st k = in_varied st.expect && (leb st.next st.n && not (eqb k 400))

abbrev pub f10 : Due → ℕ → Fault
f10 st k = stop (is_open st k) 10 0 0

-- "first field is no indicator, or this record may not come here"
abbrev pub f4 : Due → ℕ → Fault
f4 st k = stop (not (may_come st.expect k)) 4 0 0

-- what the rules of a record of the kind k are made from, by its channel
abbrev pub scale_of : Due → ℕ → List (List ℕ) → Scale
scale_of st k fs = scale_for k st.n st.decimals fs

-- "wrong number of fields"
abbrev pub f5 : ℕ → Scale → List (List ℕ) → Fault
f5 k z fs = stop (not (eqb (length fs) (count_of k z))) 5 0 0

-- "a field breaks its rule or has an end space": the leftmost, where the first of these fields starts at o and has the number i from 0
unfoldable pub fault_in : ℕ → Scale → ℕ → ℕ → List (List ℕ) → Fault
fault_in k z o i [] = Fine
fault_in k z o i (f ∷ fs) = cond (obeys k (rule_of k z i) f) (fault_in k z (o + length f + 1) (i + 1) fs) (Stop 6 o (i + 1))

abbrev pub f6 : ℕ → Scale → List (List ℕ) → Fault
f6 k z fs = fault_in k z 0 0 fs

-- "a rule across fields is broken": start of the leftmost such quality field, of those with these numbers from 0
unfoldable pub broken_in : ℕ → List (List ℕ) → List ℕ → Fault
broken_in k fs [] = Fine
broken_in k fs (i ∷ is) = cond (agrees (mark_at k i fs)) (broken_in k fs is) (Stop 7 (start_of i fs) (i + 1))

abbrev pub f7 : ℕ → ℕ → List (List ℕ) → Fault
f7 k n fs = broken_in k fs (qualities_of k n)

-- "date not later than the day before it in this 200": date field
unfoldable pub is_not_later : Due → ℕ → List (List ℕ) → Bool
is_not_later st k fs = eqb k 300 && leb (date_in fs) st.date

abbrev pub f8 : Due → ℕ → List (List ℕ) → Fault
f8 st k fs = stop (is_not_later st k fs) 8 (start_of date_field fs) (date_field + 1)

-- "a 400's start or end breaks the cover rule": "the first starts at 1, each next at the last end plus 1, none ends before it starts or after n"
unfoldable pub covers : Due → List (List ℕ) → Bool
covers st fs = eqb (first_in fs) st.next && (leb (first_in fs) (last_in fs) && leb (last_in fs) st.n)

unfoldable pub is_off : Due → ℕ → List (List ℕ) → Bool
is_off st k fs = eqb k 400 && not (covers st fs)

abbrev pub f9 : Due → ℕ → List (List ℕ) → Fault
f9 st k fs = stop (is_off st k fs) 9 (start_of first_field fs) (first_field + 1)

-- "the 400 that completes the cover leaves the whole day alike"
unfoldable pub is_alike : Due → ℕ → List (List ℕ) → Bool
is_alike st k fs = eqb k 400 && (eqb (last_in fs) st.n && alike_with st fs)

abbrev pub f11 : Due → ℕ → List (List ℕ) → Fault
f11 st k fs = stop (is_alike st k fs) 11 0 0

-- "read time's date differs", as 02, 1 mends it: "a read time has the 300's date with a time other than 00:00:00, or is 00:00:00 of the day after"; "if given"
unfoldable pub on_day : ℕ → ℕ → Bool
on_day date time = eqb time 0 || (eqb (time / 1000000) date && not (eqb (time % 1000000) 0)) || eqb time (day_after date * 1000000)

unfoldable pub is_elsewhere : Due → ℕ → List (List ℕ) → Bool
is_elsewhere st k fs = eqb k 500 && not (on_day st.date (read_time_in fs))

abbrev pub f12 : Due → ℕ → List (List ℕ) → Fault
f12 st k fs = stop (is_elsewhere st k fs) 12 (start_of read_time_field fs) (read_time_field + 1)

-- the first fault of a record of the kind k with these fields, whose bytes are plain
unfoldable pub fault_at : Due → ℕ → List (List ℕ) → Fault
fault_at st k fs =
    f10 st k ▹ f4 st k ▹ f5 k (scale_of st k fs) fs ▹ f6 k (scale_of st k fs) fs ▹ f7 k (scale_of st k fs).n fs
    ▹ f8 st k fs ▹ f9 st k fs ▹ f11 st k fs ▹ f12 st k fs

-- the first fault of the record r
unfoldable pub fault_of : Due → List ℕ → Fault
fault_of st r = f3 r ▹ fault_at st (kind_in (fields r)) (fields r)
