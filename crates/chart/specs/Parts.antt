-- What the parts of the picture are made of. Lengths in the picture are in millionths of its unit, as values are, and are written as values are.
use Rattle.std.specs.Prelude.{ℕ, ◌/◌, cond, List, ◌++◌, eqb}
use Rattle.ground.specs.Digits.{dec}
use Rattle.ground.specs.Text.{bytes}
use Rattle.format.specs.Block.{value_text}
use Rattle.format.specs.Quality.{flag_a, flag_e, flag_f, flag_n, flag_s}
use Rattle.words.specs.Lists.{numbered}

-- one of n equal shares, nothing of none
unfoldable pub share_of : ℕ → ℕ → ℕ
share_of whole n = cond (eqb n 0) 0 (whole / n)

-- between two texts a third, a number, or a value or a length
unfoldable pub text_in : List ℕ → List ℕ → List ℕ → List ℕ
text_in before t after = before ++ t ++ after

unfoldable pub number_in : List ℕ → ℕ → List ℕ → List ℕ
number_in before n after = before ++ dec n ++ after

unfoldable pub value_in : List ℕ → ℕ → List ℕ → List ℕ
value_in before v after = before ++ value_text v ++ after

-- a value and its unit
unfoldable pub amount_text : ℕ → List ℕ → List ℕ
amount_text v unit = value_text v ++ bytes " " ++ unit

-- the number of a quality's colour: actual, estimated, final substituted, substituted, any other
unfoldable pub shade_of : ℕ → ℕ
shade_of flag = cond (eqb flag flag_a) 1 (cond (eqb flag flag_e) 2 (cond (eqb flag flag_f) 3 (cond (eqb flag flag_s) 4 5)))

-- the colours, each with the end of its rectangle: from dark to light actual, final substituted, substituted and estimated, so that they can be told apart
-- without seeing colours, and in a grey print
abbrev pub colours : List ℕ
colours = bytes " fill='#0a4278'/>; fill='#f2b632'/>; fill='#d0590f'/>; fill='#35a79c'/>; fill='#767676'/>"

unfoldable pub colour_text : ℕ → List ℕ
colour_text flag = numbered (shade_of flag) colours

-- what fills the whole height at an interval: a hatch where there is no data, else nothing
unfoldable pub band_text : ℕ → List ℕ
band_text flag = cond (eqb flag flag_n) (bytes " fill='url(#null)'/>") (bytes " fill='none'/>")
