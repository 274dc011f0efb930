-- A day as a table: its title, and a line for each interval. A text that stands in a column goes by the place that its line has come to, which comes last.
use Rattle.std.specs.Prelude.{ℕ, ◌*◌, ◌/◌, ◌%◌, cond, List, [], ◌∷◌, ◌++◌, length, eqb}
use Rattle.ground.specs.Digits.{dec}
use Rattle.ground.specs.Text.{bytes}
use Rattle.format.specs.declared.DayHead.{DayHead}
use Rattle.words.specs.Qualities.{quality_name}
use Rattle.phrase.specs.Phrases.{two_text, date_text, clock_text, time_text, cell_text, right_text, point_text, beside}

unfoldable pub dated_text : ℕ → List ℕ
dated_text day = date_text day ++ bytes ": "

unfoldable pub intervals_text : ℕ → ℕ → List ℕ
intervals_text n minutes = dec n ++ bytes " intervals of " ++ dec minutes ++ bytes " minutes, updated "

-- 0 is no load time
unfoldable pub loaded_text : ℕ → List ℕ
loaded_text load = cond (eqb load 0) [] (bytes ", loaded " ++ time_text load)

unfoldable pub title_text : DayHead → ℕ → List ℕ
title_text d n = dated_text d.date ++ intervals_text n d.«length» ++ time_text d.update ++ loaded_text d.load

abbrev pub headings : List ℕ
headings = bytes " no ends     value         quality                 reason  description"

-- when interval k from 1 ends, of n in a day: in minutes
unfoldable pub end_of : ℕ → ℕ → ℕ
end_of k n = cond (eqb n 0) 0 (k * 1440 / n)

unfoldable pub end_text : ℕ → ℕ → List ℕ
end_text minutes at = cell_text 4 [] at ++ clock_text (minutes / 60) (minutes % 60)

unfoldable pub front_text : ℕ → ℕ → ℕ → ℕ → List ℕ
front_text k minutes value at = beside at (beside at (right_text 3 k at) (end_text minutes)) (point_text 18 value)

-- 255 is no method
unfoldable pub method_text : ℕ → List ℕ
method_text method = cond (eqb method 255) [] (two_text method)

unfoldable pub quality_text : ℕ → ℕ → ℕ → List ℕ
quality_text flag method at = cell_text 27 (flag ∷ []) at ++ method_text method

unfoldable pub quality_name_text : ℕ → ℕ → List ℕ
quality_name_text flag at = cell_text 32 [] at ++ quality_name flag

-- 65535 is no reason
unfoldable pub reason_text : ℕ → ℕ → List ℕ
reason_text code at = cond (eqb code 65535) [] (cell_text 51 [] at ++ dec code)

unfoldable pub description_text : List ℕ → ℕ → List ℕ
description_text t at = cond (eqb (length t) 0) [] (cell_text 59 t at)

unfoldable pub mark_text : ℕ → ℕ → ℕ → List ℕ → ℕ → List ℕ
mark_text flag method code t at = beside at (beside at (beside at (quality_text flag method at) (quality_name_text flag)) (reason_text code)) (description_text t)

-- the line of interval k from 1, of n in its day
unfoldable pub row_text : ℕ → ℕ → ℕ → ℕ → ℕ → ℕ → List ℕ → ℕ → List ℕ
row_text k n value flag method code t at = beside at (front_text k (end_of k n) value at) (mark_text flag method code t)
