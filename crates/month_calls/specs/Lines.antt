-- The line in which the probe answers the call that reads several days.
use Rattle.std.specs.Prelude.{ℕ, Bool, ◌&&◌, List, [], ◌∷◌, ◌++◌, get_or}
use Rattle.ground.specs.Digits.{dec}
use Rattle.format.specs.Answers.{Answer, accepted, refused}
use Rattle.page.specs.Texts.{texts}
use Rattle.answer_lines.specs.Lines.{line_of, numbers_text}
use Rattle.calls.specs.Kept.{kept, wide_mark, byte_mark, kept_all}
use Rattle.calls.specs.Lines.{intervals_in}
use Rattle.months.specs.Month.{Daily, DaysLeft}

-- the days that were read: the first of the answer's values (the second are their intervals, `intervals_in`)
abbrev pub days_in : Answer → ℕ
days_in (accepted (d ∷ xs)) = d
days_in (accepted []) = 0
days_in (refused x p k i) = 0

-- day i: a space, then date, number of intervals, update time, load time and unit, with slashes between them
unfoldable pub day_in : Daily → ℕ → List ℕ
day_in ds i =
    (32 ∷ dec (get_or ds.dates i 0))
    ++ numbers_text 47 (get_or ds.counts i 0 ∷ get_or ds.updates i 0 ∷ get_or ds.loads i 0 ∷ get_or ds.units i 0 ∷ [])

-- the line up to its intervals: the answer and its days
unfoldable pub days_text : DaysLeft → List ℕ
days_text l = line_of l.answer ++ texts (day_in l.lists.days) (days_in l.answer)

-- what every place of a list of dates is lent with: no date
abbrev pub date_mark : ℕ
date_mark = 2779096485

-- each of the five lists of one place a day, from place d on
unfoldable pub kept_daily : ℕ → Daily → Bool
kept_daily d ds =
    kept date_mark d ds.dates && (kept wide_mark d ds.counts && (kept wide_mark d ds.updates && (kept wide_mark d ds.loads && kept byte_mark d ds.units)))

-- the six long lists behind the intervals, and the five behind the days
unfoldable pub kept_behind : DaysLeft → Bool
kept_behind l = kept_all (intervals_in l.answer) l.lists.values l.lists.marks && kept_daily (days_in l.answer) l.lists.days
