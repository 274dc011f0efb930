-- The line in which an answer is given.
use Rattle.std.specs.Prelude.{ℕ, List, [], ◌∷◌, ◌++◌, get_or, Result, Ok, Err}
use Rattle.ground.specs.Digits.{dec}
use Rattle.ground.specs.Text.{bytes}
use Rattle.page.specs.Texts.{texts}
use Rattle.format.specs.Answers.{Answer, accepted, refused, day_read_as}
use Rattle.format.specs.declared.DayRead.{DayRead}
use Rattle.format.specs.declared.Refusal.{Refusal}

-- numbers, each behind the sign
unfoldable pub numbers_text : ℕ → List ℕ → List ℕ
numbers_text sign [] = []
numbers_text sign (x ∷ xs) = (sign ∷ dec x) ++ numbers_text sign xs

-- "accepted" and the answer's values, or "refused" with number, place, record and field
abbrev pub line_of : Answer → List ℕ
line_of (accepted xs) = bytes "accepted" ++ numbers_text 32 xs
line_of (refused x p k i) = bytes "refused" ++ numbers_text 32 (x ∷ p ∷ k ∷ i ∷ [])

-- an interval: a space, then value, flag, method, reason, start and length of its description, with slashes between them
unfoldable pub interval_text : ℕ → ℕ → ℕ → ℕ → ℕ → ℕ → List ℕ
interval_text v f m r s l = (32 ∷ dec v) ++ numbers_text 47 (f ∷ m ∷ r ∷ s ∷ l ∷ [])

-- interval i of the six lists
abbrev pub interval_in : List ℕ → List ℕ → List ℕ → List ℕ → List ℕ → List ℕ → ℕ → List ℕ
interval_in vs fs ms rs ss ls i = interval_text (get_or vs i 0) (get_or fs i 0) (get_or ms i 0) (get_or rs i 0) (get_or ss i 0) (get_or ls i 0)

-- how many intervals were read
abbrev pub intervals_read : Result DayRead Refusal → ℕ
intervals_read (Ok d) = d.n
intervals_read (Err x) = 0

-- the line of a day, the text of each of whose intervals f gives: the answer, and behind it the intervals
abbrev pub day_line : Result DayRead Refusal → (ℕ → List ℕ) → List ℕ
day_line x f = line_of (day_read_as x) ++ texts f (intervals_read x)
