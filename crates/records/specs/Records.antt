-- What is looked up in a file to say more of it: the record in which a place stands, the 200 that holds there, and the unit that a field names.
use Rattle.std.specs.Prelude.{ℕ, zero, suc, ◌+◌, ◌-◌, List, [], Bool, cond, ◌&&◌, length, get_or, take, drop, leb, ltb, eqb}
use Rattle.ground.specs.Lists.{span_of, part}
use Rattle.format.specs.Bytes.{plain}
use Rattle.format.specs.Numbers.{number_in}
use Rattle.format.specs.Units.{unit_of}
use Rattle.format.specs.Cut.{is_crlf, Lines, line, rest, lines, fields, field}
use Rattle.format.specs.Records.{kind_in, intervals_in}
use Rattle.records.specs.declared.Record.{Record}

-- ---- the record in which a place stands

-- a CR LF stands right before the place
unfoldable pub crlf_before : List ℕ → ℕ → Bool
crlf_before file at = ltb 1 at && is_crlf (get_or file (at - 2) 0) (get_or file (at - 1) 0)

-- where that record starts: behind the last CR LF before the place
unfoldable pub record_start : List ℕ → ℕ → ℕ
record_start file zero = 0
record_start file (suc p) = cond (crlf_before file (suc p)) (suc p) (record_start file p)

-- the first of the lines
abbrev pub first_of : Lines → List ℕ
first_of (line r ls) = r
first_of (rest t) = t

-- the record r, which starts at a: its kind, 0 where it has none, and how many fields stand before its first byte that is not plain
unfoldable pub record_as : ℕ → List ℕ → Record
record_as a r = record { start = a; end = a + length r; kind = kind_in (fields r); count = length (fields (take (span_of plain r) r)) }

unfoldable pub record_of : List ℕ → ℕ → Record
record_of file place = record_as (record_start file place) (first_of (lines (drop (record_start file place) file)))

-- ---- the 200 before a place

-- the 200 that holds behind the record r: r itself, where it is one
unfoldable pub channel_behind : List ℕ → List ℕ → List ℕ
channel_behind c r = cond (eqb (kind_in (fields r)) 200) r c

-- the 200 that holds at a place, from the lines on that start at p; c is what holds before them
unfoldable pub channel_from : ℕ → ℕ → List ℕ → Lines → List ℕ
channel_from place p c (rest t) = c
channel_from place p c (line r ls) = cond (ltb p place) (channel_from place (p + length r + 2) (channel_behind c r) ls) c

-- empty before the first 200
unfoldable pub channel_before : List ℕ → ℕ → List ℕ
channel_before file place = channel_from place 0 [] (lines file)

unfoldable pub n_before : List ℕ → ℕ → ℕ
n_before file place = intervals_in (fields (channel_before file place))

-- ---- units

-- the number of the unit that the field of a number from 0 names
unfoldable pub unit_named : ℕ → List ℕ → ℕ
unit_named i r = number_in (unit_of (field i (fields r)))

-- ---- descriptions

-- the n bytes of the file from a place on, none where it has no such part
unfoldable pub text_at : List ℕ → ℕ → ℕ → List ℕ
text_at file from n = cond (leb (from + n) (length file)) (part file from (from + n)) []
