-- 01, A day: "Each interval of a read day has its value, flag, method (255 if none), reason (65535 if none) and the start and length of its description in
-- the file (start 0 if the length is 0). On a V day they come from its 400, else from the 300. [..] The answer also has the date, n, update time and load
-- time", and by 02, 8, the unit. "Two days are the same when date, interval length, values, flags, methods, reasons, description bytes, update time and load
-- time agree", and by 02, 8, their units.
use Rattle.std.specs.Prelude.{ℕ, ◌+◌, ◌-◌, List, [], ◌∷◌, ◌++◌, map, Bool, cond, ◌&&◌, length, drop, replicate, leb, eqb}
use Rattle.format.specs.Numbers.{number_in, reason_of}
use Rattle.format.specs.Quality.{quality_of, flag_in, method_in, Mark}
use Rattle.format.specs.Cut.{Lines, line, rest, lines, fields, field, start_of}
use Rattle.format.specs.Records.{kind_in, intervals_in, unit_in, date_in, values_in, update_in, load_in, first_in, last_in, quality300, quality400, mark_at}
use Rattle.format.specs.Order.{is_varied}
use Rattle.format.specs.Answers.{Answer, accepted, refused, refusal}
use Rattle.format.specs.File.{check_of}
use Rattle.format.specs.declared.Tag.{Tag}

-- ---- the records of a day

-- a record with its place in the file
pub record Row : Type 0 where
  pub place : ℕ
  pub cells : List (List ℕ)

abbrev pub row_at : ℕ → List ℕ → Row
row_at p r = record { place = p; cells = fields r }

-- a day block of n intervals in a unit: its 300, and the 400s under it
pub record BlockRows : Type 0 where
  pub n : ℕ
  pub unit : ℕ
  pub top : Row
  pub runs : List Row

-- a day of a file: the 200 that it stands under, and its block, whose n and unit are those of the 200
pub record DayRows : Type 0 where
  pub channel : Row
  pub block : BlockRows

-- the 400s at place p, up to the first other record
unfoldable pub runs_from : ℕ → Lines → List Row
runs_from p (rest t) = []
runs_from p (line r ls) = cond (eqb (kind_in (fields r)) 400) (row_at p r ∷ runs_from (p + length r + 2) ls) []

-- the day under the 200 c whose 300 is the record r at place p, with the lines behind it
abbrev pub day_from : ℕ → Row → List ℕ → Lines → DayRows
day_from p c r ls = record { channel = c; block = record { n = intervals_in c.cells; unit = unit_in c.cells; top = row_at p r; runs = runs_from (p + length r + 2) ls } }

-- the days from place p on, where c is the 200 before
unfoldable pub days_from : ℕ → Row → Lines → List DayRows
days_from p c (rest t) = []
days_from p c (line r ls) =
    cond (eqb (kind_in (fields r)) 300)
    (day_from p c r ls ∷ days_from (p + length r + 2) c ls)
    (days_from (p + length r + 2) (cond (eqb (kind_in (fields r)) 200) (row_at p r) c) ls)

-- before the first 200
abbrev pub no_channel : Row
no_channel = row_at 0 []

-- "each numbered from 0 in file order"
unfoldable pub days_of : List ℕ → List DayRows
days_of file = days_from 0 no_channel (lines file)

-- ---- what they say

-- what is said of the intervals from the first to the last of each 400
unfoldable pub cover_of : {X : Type 0} → (Row → X) → List Row → List X
cover_of f [] = []
cover_of f (x ∷ xs) = replicate (last_in x.cells + 1 - first_in x.cells) (f x) ++ cover_of f xs

-- what f says of each interval, by the record's kind, the record and the number of its quality field from 0: on a V day of its 400, else of the 300
unfoldable pub each_of : {X : Type 0} → (ℕ → Row → ℕ → X) → BlockRows → List X
each_of f d =
    cond (is_varied d.n d.top.cells) (cover_of (λ x. f 400 x quality400) d.runs) (replicate d.n (f 300 d.top (quality300 d.n)))

-- the mark with its description's place in the file
unfoldable pub tag_at : ℕ → Row → ℕ → Tag
tag_at k x i =
    record {
      flag = flag_in (quality_of k (field i x.cells));
      method = method_in (quality_of k (field i x.cells));
      reason = number_in (reason_of (field (i + 1) x.cells));
      start = cond (eqb (length (field (i + 2) x.cells)) 0) 0 (x.place + start_of (i + 2) x.cells);
      length = length (field (i + 2) x.cells);
    }

unfoldable pub tags_of : BlockRows → List Tag
tags_of d = each_of tag_at d

unfoldable pub values_of : BlockRows → List ℕ
values_of d = values_in d.n d.top.cells

-- a day, whatever bytes it was read from: two days are the same when these are equal (n stands for the interval length: it is 1440 divided by it)
pub record Day : Type 0 where
  pub date : ℕ
  pub n : ℕ
  pub unit : ℕ
  pub update : ℕ
  pub load : ℕ
  pub values : List ℕ
  pub marks : List Mark

unfoldable pub marks_of : BlockRows → List Mark
marks_of d = each_of (λ k x i. mark_at k i x.cells) d

unfoldable pub day_of : BlockRows → Day
day_of d =
    record {
      date = date_in d.top.cells;
      n = d.n;
      unit = d.unit;
      update = update_in d.n d.top.cells;
      load = load_in d.n d.top.cells;
      values = values_of d;
      marks = marks_of d;
    }

-- ---- what a reading answers and leaves

-- the five lists of marks, taken together
pub record Five : Type 0 where
  pub flags : List ℕ
  pub methods : List ℕ
  pub reasons : List ℕ
  pub starts : List ℕ
  pub lengths : List ℕ

abbrev pub five : List ℕ → List ℕ → List ℕ → List ℕ → List ℕ → Five
five a b c d e = record { flags = a; methods = b; reasons = c; starts = d; lengths = e }

pub record Outcome : Type 0 where
  pub answer : Answer
  pub values : List ℕ
  pub marks : Five

abbrev pub outcome : Answer → List ℕ → Five → Outcome
outcome a vs ms = record { answer = a; values = vs; marks = ms }

-- "Lists longer than n keep their tail."
abbrev pub over : List ℕ → List ℕ → List ℕ
over xs ws = xs ++ drop (length xs) ws

unfoldable pub over_five : List Tag → Five → Five
over_five ts ms =
    five
    (over (map (λ (t : Tag). t.flag) ts) ms.flags)
    (over (map (λ (t : Tag). t.method) ts) ms.methods)
    (over (map (λ (t : Tag). t.reason) ts) ms.reasons)
    (over (map (λ (t : Tag). t.start) ts) ms.starts)
    (over (map (λ (t : Tag). t.length) ts) ms.lengths)

-- none of six lists of these lengths is shorter than n
unfoldable pub enough_for : ℕ → ℕ → ℕ → ℕ → ℕ → ℕ → ℕ → Bool
enough_for n v f m r s l = leb n v && leb n f && leb n m && leb n r && leb n s && leb n l

abbrev pub room_for : ℕ → List ℕ → Five → Bool
room_for n vs ms =
    enough_for n (length vs) (length ms.flags) (length ms.methods) (length ms.reasons) (length ms.starts) (length ms.lengths)

-- the day is read: its answer, and each list with its n places filled
unfoldable pub read_into : BlockRows → List ℕ → Five → Outcome
read_into d vs ms =
    outcome
    (accepted (date_in d.top.cells ∷ d.n ∷ update_in d.n d.top.cells ∷ load_in d.n d.top.cells ∷ d.unit ∷ []))
    (over (values_of d) vs)
    (over_five (tags_of d) ms)

-- "Reading calls give the file's own refusal first, then 14, then 15"; "Calls that fail leave all lent lists untouched."
-- The days that are left from the one that is asked for: none is 14.
abbrev pub read_first : List DayRows → List ℕ → Five → Outcome
read_first [] vs ms = outcome (refusal 14) vs ms
read_first (d ∷ ds) vs ms = cond (room_for d.block.n vs ms) (read_into d.block vs ms) (outcome (refusal 15) vs ms)

abbrev pub after_check : Answer → Outcome → List ℕ → Five → Outcome
after_check (accepted xs) o vs ms = o
after_check (refused x p k i) o vs ms = outcome (refused x p k i) vs ms

unfoldable pub read_of : List ℕ → ℕ → List ℕ → Five → Outcome
read_of file day vs ms = after_check (check_of file) (read_first (drop day (days_of file)) vs ms) vs ms
