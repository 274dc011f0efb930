-- What is said of a refusal of a file; each line with its end.
use Rattle.std.specs.Prelude.{ℕ, ◌+◌, ◌-◌, Bool, false, cond, ◌&&◌, List, [], ◌++◌, length, leb, ltb, eqb}
use Rattle.ground.specs.Lists.{part}
use Rattle.ground.specs.Text.{bytes}
use Rattle.format.specs.Cut.{fields, field}
use Rattle.format.specs.Numbers.{is_number, decimals, value_of}
use Rattle.format.specs.Records.{scale, count_of, unit_field, quantity_field, quantity_unit_field}
use Rattle.format.specs.declared.Refusal.{Refusal}
use Rattle.phrase.specs.Phrases.{line_text}
use Rattle.refusals.specs.Places.{headline, counts, whereabouts}
use Rattle.refusals.specs.Hints.{known_units, too_many}
use Rattle.refusals.specs.Excerpts.{excerpt, mark}
use Rattle.records.specs.Records.{record_of, channel_before, n_before, unit_named}
use Rattle.records.specs.declared.Record.{Record}

-- ---- what would be right where a refusal stands

-- how many fields there are and have to be; decimals make no field more or less
unfoldable pub counts_line : List ℕ → ℕ → Record → List ℕ
counts_line file place r = line_text (counts r.count (count_of r.kind (scale (n_before file place) 0)))

-- the field of a number from 1 is a unit
unfoldable pub is_unit_field : ℕ → ℕ → Bool
is_unit_field kind number = cond (eqb kind 200) (eqb number (unit_field + 1)) (cond (eqb kind 250) (eqb number (quantity_unit_field + 1)) false)

-- it is an interval's value, in a 300 that has so many: two fields stand before the values, and five behind them
unfoldable pub is_interval : ℕ → ℕ → Bool
is_interval number count = leb 3 number && ltb 4 (count - number)

-- it is a value, in a record of the kind
unfoldable pub is_value_field : ℕ → ℕ → ℕ → Bool
is_value_field kind number count = cond (eqb kind 250) (eqb number (quantity_field + 1)) (cond (eqb kind 300) (is_interval number count) false)

-- the unit of a record's values: a 250 names its own, and a 300 has that of the 200 before it
unfoldable pub unit_for : List ℕ → ℕ → Record → ℕ
unit_for file place r =
    cond (eqb r.kind 250) (unit_named quantity_unit_field (part file r.start r.end)) (unit_named unit_field (channel_before file place))

-- how many decimals a field has and may have in the unit, where it is a value but for them
unfoldable pub decimals_line : ℕ → List ℕ → List ℕ
decimals_line unit value = cond (is_number (value_of decimals value)) (line_text (too_many unit value)) []

-- what the table of units says of the field at fault
unfoldable pub unit_line : List ℕ → Refusal → Record → List ℕ
unit_line file x r =
    cond (is_unit_field r.kind x.field) (line_text known_units)
    (cond (is_value_field r.kind x.field r.count)
    (decimals_line (unit_for file x.place r) (field (x.field - 1) (fields (part file r.start r.end))))
    [])

-- what would be right, where more can be said of it than the number says
unfoldable pub hint : List ℕ → Refusal → Record → List ℕ
hint file x r = cond (eqb x.number 5) (counts_line file x.place r) (cond (eqb x.number 6) (unit_line file x r) [])

-- ---- a refusal

-- 01: "For 1, 14 to [16], and any number added later without a place of its own, place, record and field are 0."
unfoldable pub has_place : ℕ → Bool
has_place number = leb 2 number && ltb number 14

-- a record's line, and below it the mark under its column
unfoldable pub marked_text : List ℕ → ℕ → List ℕ
marked_text line column = line_text (excerpt line column) ++ line_text (mark column)

-- the same, where there is something of the line
unfoldable pub shown_line : List ℕ → ℕ → List ℕ
shown_line line column = cond (eqb (length line) 0) [] (marked_text line column)

-- where a refusal stands, which is in the record r; its place is told as y has it
unfoldable pub place_text : List ℕ → Refusal → Refusal → Record → List ℕ
place_text file x y r =
    line_text (whereabouts y r.kind r.count) ++ hint file x r ++ shown_line (part file r.start r.end) (x.place - r.start)

unfoldable pub explanation_as : List ℕ → Refusal → Refusal → List ℕ
explanation_as file x y = line_text (headline x.number) ++ cond (has_place x.number) (place_text file x y (record_of file x.place)) []

abbrev pub explanation : List ℕ → Refusal → List ℕ
explanation file x = explanation_as file x x

-- where it stands, in the same line
unfoldable pub told_place : List ℕ → Refusal → List ℕ
told_place file x = cond (has_place x.number) (bytes ", " ++ whereabouts x (record_of file x.place).kind (record_of file x.place).count) []

-- the same in one line without its end: what the refusal means, and where it stands
unfoldable pub told : List ℕ → Refusal → List ℕ
told file x = headline x.number ++ told_place file x
