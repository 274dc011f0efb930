-- Parts of the lines that people read.
use Rattle.std.specs.Prelude.{ℕ, ◌+◌, ◌-◌, ◌/◌, ◌%◌, cond, List, [], ◌∷◌, ◌++◌, length, take, replicate, ltb, eqb}
use Rattle.ground.specs.Digits.{width, dec}
use Rattle.ground.specs.Text.{bytes}
use Rattle.format.specs.Block.{value_text}

-- so many spaces, and never more than a line of 80 has
unfoldable pub blank : ℕ → List ℕ
blank n = take n (replicate 80 32)

-- a text that starts at place `to`, on a line that has come to `at`
unfoldable pub cell_text : ℕ → List ℕ → ℕ → List ℕ
cell_text to t at = blank (to - at) ++ t

-- a number whose last digit stands before place `to`
unfoldable pub right_text : ℕ → ℕ → ℕ → List ℕ
right_text to n at = cell_text (to - width n) (dec n) at

-- a value whose point stands at place `to`, or would stand there
unfoldable pub point_text : ℕ → ℕ → ℕ → List ℕ
point_text to v at = cell_text (to - width (v / 1000000)) (value_text v) at

-- a text at place `at`, and behind it another that goes by the place that the line has come to
unfoldable pub beside : ℕ → List ℕ → (ℕ → List ℕ) → List ℕ
beside at t f = t ++ f (at + length t)

-- a text, and the line's end
unfoldable pub line_text : List ℕ → List ℕ
line_text t = t ++ 10 ∷ []

unfoldable pub quoted_text : List ℕ → List ℕ
quoted_text t = bytes "'" ++ t ++ bytes "'"

unfoldable pub plural_text : ℕ → List ℕ
plural_text n = cond (eqb n 1) [] (bytes "s")

-- a number and what it counts, as 1 day and 2 days
unfoldable pub counted_text : ℕ → List ℕ → List ℕ
counted_text n what = dec n ++ bytes " " ++ what ++ plural_text n

unfoldable pub zero_text : ℕ → List ℕ
zero_text n = cond (ltb n 10) (bytes "0") []

-- two digits, of a number below 100
unfoldable pub two_text : ℕ → List ℕ
two_text n = zero_text n ++ dec n

-- a sign, and two digits behind it
unfoldable pub two_behind : ℕ → ℕ → List ℕ
two_behind sign n = sign ∷ two_text n

-- 20031219 as 2003-12-19
unfoldable pub date_text : ℕ → List ℕ
date_text d = dec (d / 10000) ++ two_behind 45 (d / 100 % 100) ++ two_behind 45 (d % 100)

-- 14 and 30 as 14:30
unfoldable pub clock_text : ℕ → ℕ → List ℕ
clock_text hours minutes = two_text hours ++ two_behind 58 minutes

-- 20031219143005 as 2003-12-19 14:30:05
unfoldable pub time_text : ℕ → List ℕ
time_text t = date_text (t / 1000000) ++ bytes " " ++ clock_text (t / 10000 % 100) (t / 100 % 100) ++ two_behind 58 (t % 100)
