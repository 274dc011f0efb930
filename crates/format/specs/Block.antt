-- 01, Refusal numbers: "Writing: interval length not 5, 15 or 30 (16); a list shorter than n (15); any other unfit part (16); room (15). A day is fit when its
-- date and times meet the rules above, each value is below 10^13, each interval's quality, reason and description are ones that a single 400 may carry
-- together, the rules across fields included, and each description lies inside the lent text (an empty one does, whatever its start). [..] Values are written
-- without needless zeros. The answer gives the block's length and record count. Room behind the block keeps its bytes."
use Rattle.std.specs.Prelude.{ℕ, ◌+◌, ◌-◌, ◌/◌, ◌%◌, ◌^◌, List, [], ◌∷◌, ◌++◌, Bool, cond, ◌&&◌, ◌||◌, length, take, drop, get_or, leb, ltb, eqb}
use Rattle.ground.specs.Lists.{all, from}
use Rattle.ground.specs.Text.{bytes}
use Rattle.ground.specs.Digits.{padded, dec}
use Rattle.ground.specs.Runs.{Run, run, runs}
use Rattle.format.specs.Bytes.{field_byte}
use Rattle.format.specs.Texts.{is_description}
use Rattle.format.specs.Numbers.{is_length, intervals_of, no_reason}
use Rattle.format.specs.Units.{is_unit, decimals_of}
use Rattle.format.specs.Dates.{is_date, is_time}
use Rattle.format.specs.Quality.{stands_alone, takes_method, no_method, Mark, no_mark, same_mark}
use Rattle.format.specs.Records.{agrees}
use Rattle.format.specs.Day.{Day, enough_for}
use Rattle.format.specs.Answers.{Answer, accepted, refused, refusal}
use Rattle.format.specs.declared.DayHead.{DayHead}

-- ---- the day that is handed in

pub record Given : Type 0 where
  pub head : DayHead
  pub values : List ℕ
  pub flags : List ℕ
  pub methods : List ℕ
  pub reasons : List ℕ
  pub starts : List ℕ
  pub lengths : List ℕ
  pub text : List ℕ

abbrev pub given : DayHead → List ℕ → List ℕ → List ℕ → List ℕ → List ℕ → List ℕ → List ℕ → Given
given h vs fs ms rs ss ls t =
    record { head = h; values = vs; flags = fs; methods = ms; reasons = rs; starts = ss; lengths = ls; text = t }

unfoldable pub intervals_given : Given → ℕ
intervals_given g = intervals_of g.head.length

-- interval i, from 0
unfoldable pub mark_given : Given → ℕ → Mark
mark_given g i =
    record {
      flag = get_or g.flags i 0;
      method = get_or g.methods i 0;
      reason = get_or g.reasons i 0;
      text = take (get_or g.lengths i 0) (drop (get_or g.starts i 0) g.text);
    }

unfoldable pub day_given : Given → Day
day_given g =
    record {
      date = g.head.date;
      n = intervals_given g;
      unit = g.head.unit;
      update = g.head.update;
      load = g.head.load;
      values = take (intervals_given g) g.values;
      marks = from (mark_given g) 0 (intervals_given g);
    }

-- ---- fit

-- a quality that a 400 may carry
unfoldable pub fit_quality : ℕ → ℕ → Bool
fit_quality q m = cond (stands_alone 400 q) (eqb m no_method) (takes_method q && ltb m 100)

unfoldable pub fit_reason : ℕ → Bool
fit_reason r = eqb r no_reason || ltb r 1000

unfoldable pub fit_mark : Mark → Bool
fit_mark m = fit_quality m.flag m.method && fit_reason m.reason && is_description m.text && all field_byte m.text && agrees m

unfoldable pub small_value : ℕ → Bool
small_value v = ltb v (10 ^ 13)

-- 02, 8: "a value [the writer] can't write exactly in that unit makes the day unfit": it is a whole number of the last of d decimals
unfoldable pub fit_value : ℕ → ℕ → Bool
fit_value d v = small_value v && eqb (v % 10 ^ (6 - d)) 0

unfoldable pub fit_day : Day → Bool
fit_day d =
    is_unit d.unit && is_date d.date && is_time d.update && (eqb d.load 0 || is_time d.load) && all (fit_value (decimals_of d.unit)) d.values
    && all fit_mark d.marks

-- the description of interval i lies inside the text
unfoldable pub is_inside : Given → ℕ → Bool
is_inside g i = eqb (get_or g.lengths i 0) 0 || leb (get_or g.starts i 0 + get_or g.lengths i 0) (length g.text)

unfoldable pub fit_given : Given → Bool
fit_given g = all (is_inside g) (from (λ i. i) 0 (intervals_given g)) && fit_day (day_given g)

-- ---- the texts of single fields: "without needless zeros"

-- digits without the zeros at their end
unfoldable pub untrail : List ℕ → List ℕ
untrail [] = []
untrail (b ∷ s) = cond (all (eqb 48) (b ∷ s)) [] (b ∷ untrail s)

-- the point and the six decimals of f millionths without the zeros at their end, nothing where f is 0
unfoldable pub fraction_text : ℕ → List ℕ
fraction_text f = cond (eqb f 0) [] (46 ∷ untrail (padded 6 f))

unfoldable pub value_text : ℕ → List ℕ
value_text v = dec (v / 10 ^ 6) ++ fraction_text (v % 10 ^ 6)

unfoldable pub quality_text : ℕ → ℕ → List ℕ
quality_text q m = q ∷ cond (eqb m no_method) [] (padded 2 m)

unfoldable pub reason_text : ℕ → List ℕ
reason_text r = cond (eqb r no_reason) [] (dec r)

unfoldable pub load_text : ℕ → List ℕ
load_text t = cond (eqb t 0) [] (padded 14 t)

-- ---- the shortest block

abbrev pub comma : List ℕ
comma = 44 ∷ []

abbrev pub crlf : List ℕ
crlf = 13 ∷ 10 ∷ []

-- quality, reason, description
unfoldable pub mark_text : Mark → List ℕ
mark_text m = quality_text m.flag m.method ++ comma ++ reason_text m.reason ++ comma ++ m.text

-- values, each with a comma behind it
unfoldable pub values_text : List ℕ → List ℕ
values_text [] = []
values_text (v ∷ vs) = value_text v ++ comma ++ values_text vs

-- a 400 for the intervals behind the first a up to e
unfoldable pub run_text : ℕ → ℕ → Mark → List ℕ
run_text a e m = bytes "400," ++ dec (a + 1) ++ comma ++ dec e ++ comma ++ mark_text m ++ crlf

-- the 400s of a cover that begins behind the first a intervals
unfoldable pub cover_text : ℕ → List (Run Mark) → List ℕ
cover_text a [] = []
cover_text a (run k m ∷ c) = run_text a (a + k) m ++ cover_text (a + k) c

-- "Joining neighbours": the longest runs of intervals whose flag, method, reason and description bytes agree
unfoldable pub runs_in : List Mark → List (Run Mark)
runs_in ms = runs same_mark ms

-- there is one run
unfoldable pub is_uniform : List Mark → Bool
is_uniform ms = eqb (length (runs_in ms)) 1

-- the 300's quality, reason and description: the one mark of all intervals, or V
unfoldable pub top_text : List Mark → List ℕ
top_text ms = cond (is_uniform ms) (mark_text (get_or ms 0 no_mark)) (bytes "V,,")

-- the 400s, none where the marks are all alike
unfoldable pub tail_text : List Mark → List ℕ
tail_text ms = cond (is_uniform ms) [] (cover_text 0 (runs_in ms))

unfoldable pub block_of : Day → List ℕ
block_of d =
    bytes "300," ++ padded 8 d.date ++ comma ++ values_text d.values ++ top_text d.marks ++ comma
    ++ padded 14 d.update ++ comma ++ load_text d.load ++ crlf ++ tail_text d.marks

unfoldable pub records_of : Day → ℕ
records_of d = cond (is_uniform d.marks) 1 (1 + length (runs_in d.marks))

-- ---- what the writer answers and leaves, where the room has so many bytes

-- no list is shorter than n
unfoldable pub enough : Given → Bool
enough g =
    enough_for (intervals_given g) (length g.values) (length g.flags) (length g.methods) (length g.reasons) (length g.starts) (length g.lengths)

-- the refusal x unless the test holds
abbrev pub unless : Bool → ℕ → Answer → Answer
unless t x a = cond t a (refusal x)

-- "interval length not 5, 15 or 30 (16); a list shorter than n (15); any other unfit part (16); room (15)"
unfoldable pub write_of : Given → ℕ → Answer
write_of g room =
    unless (is_length g.head.length) 16
    (unless (enough g) 15
    (unless (fit_given g) 16
    (unless (leb (length (block_of (day_given g))) room) 15
    (accepted (length (block_of (day_given g)) ∷ records_of (day_given g) ∷ [])))))

-- the block and the room behind it; on a refusal the room as it was
abbrev pub left_by : Answer → List ℕ → List ℕ → List ℕ
left_by (accepted xs) block room = block ++ drop (length block) room
left_by (refused x p k i) block room = room

unfoldable pub room_of : Given → List ℕ → List ℕ
room_of g room = left_by (write_of g (length room)) (block_of (day_given g)) room
