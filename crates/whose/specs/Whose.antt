-- The tickets of 02, Whose day is it: "for day k of a file the channel's number, the places of its NMI and suffix in the file, its unit's number, the interval
-- length, and where its block starts and ends (behind the CR LF of its last record, 500s included). Refusals as `read_day` up to 14."
use Rattle.std.specs.Prelude.{ℕ, ◌+◌, ◌-◌, List, [], ◌∷◌, cond, ◌||◌, length, take, drop, eqb, Result, Ok, Err}
use Rattle.format.specs.declared.Refusal.{Refusal}
use Rattle.format.specs.Numbers.{number_in, length_of}
use Rattle.format.specs.Cut.{Lines, line, rest, lines, fields, field, start_of}
use Rattle.format.specs.Records.{kind_in, length_field}
use Rattle.format.specs.Answers.{Answer, accepted, refusal, refused_as}
use Rattle.format.specs.File.{check_of}
use Rattle.format.specs.Day.{Row, DayRows, days_of}
use Rattle.format.specs.Total.{totals_from, total_after}
use Rattle.whose.specs.declared.DayFound.{DayFound}

-- ---- the channel

-- how many channels stand before a place
unfoldable pub channels_before : List ℕ → ℕ → ℕ
channels_before file p = length (totals_from (lines (take p file)))

-- where a field of the 200 c stands, by its number from 0
abbrev pub place_in : Row → ℕ → ℕ
place_in c i = c.place + start_of i c.cells

abbrev pub nmi_field : ℕ
nmi_field = 1

abbrev pub suffix_field : ℕ
suffix_field = 4

-- its interval length, in minutes
unfoldable pub minutes_in : List (List ℕ) → ℕ
minutes_in fs = number_in (length_of (field length_field fs))

-- ---- the block

-- behind the 400s and 500s at p
unfoldable pub under_end : ℕ → Lines → ℕ
under_end p (rest t) = p
under_end p (line r ls) = cond (eqb (kind_in (fields r)) 400 || eqb (kind_in (fields r)) 500) (under_end (p + length r + 2) ls) p

-- the end of the block whose 300 starts at p
abbrev pub end_from : ℕ → Lines → ℕ
end_from p (rest t) = p
end_from p (line r ls) = under_end (p + length r + 2) ls

-- ---- the day

pub record Whose : Type 0 where
  pub channel : ℕ
  pub nmi : ℕ
  pub suffix : ℕ
  pub unit : ℕ
  pub minutes : ℕ
  pub start : ℕ
  pub end : ℕ

-- of the day d of a file; its channel is the last before it
unfoldable pub whose_is : List ℕ → DayRows → Whose
whose_is file d =
    record {
      channel = channels_before file d.block.top.place - 1;
      nmi = place_in d.channel nmi_field;
      suffix = place_in d.channel suffix_field;
      unit = d.block.unit;
      minutes = minutes_in d.channel.cells;
      start = d.block.top.place;
      end = end_from d.block.top.place (lines (drop d.block.top.place file));
    }

-- the numbers in the order of the answer
abbrev pub whose_as : Whose → Answer
whose_as w = accepted (w.channel ∷ w.nmi ∷ w.suffix ∷ w.unit ∷ w.minutes ∷ w.start ∷ w.end ∷ [])

abbrev pub day_found_as : Result DayFound Refusal → Answer
day_found_as (Ok d) = accepted (d.channel ∷ d.nmi ∷ d.suffix ∷ d.unit ∷ d.length ∷ d.start ∷ d.end ∷ [])
day_found_as (Err x) = refused_as x

-- of the days from the one that is asked for, the first: none is 14
abbrev pub find_first : List ℕ → List DayRows → Answer
find_first file [] = refusal 14
find_first file (d ∷ ds) = whose_as (whose_is file d)

unfoldable pub find_of : List ℕ → ℕ → Answer
find_of file day = total_after (check_of file) (find_first file (drop day (days_of file)))
