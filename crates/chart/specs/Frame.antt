-- What stands around the bars: titles, axes and grid. The picture is 960 by 480, the plot 864 by 300 with its origin at 76, 400, where the axes meet; y goes down.
use Rattle.std.specs.Prelude.{ℕ, ◌+◌, ◌*◌, List, [], ◌++◌}
use Rattle.ground.specs.Text.{bytes}
use Rattle.page.specs.Texts.{texts}
use Rattle.phrase.specs.Phrases.{date_text, clock_text}
use Rattle.measures.specs.Axis.{step_for, steps_for, height_of}
use Rattle.chart.specs.Parts.{share_of, text_in, number_in, value_in, amount_text}

-- the picture's size, its letters, the hatch of null data, white behind it all, and the start of the title
abbrev pub opening : List ℕ
opening =
    bytes "<svg xmlns='http://www.w3.org/2000/svg' viewBox='0 0 960 480' width='960' height='480' font-family='system-ui,sans-serif' font-size='12' fill='#444'>\n"
    ++ bytes "<defs><pattern id='null' width='5' height='5' patternUnits='userSpaceOnUse' patternTransform='rotate(45)'>"
    ++ bytes "<rect width='5' height='5' fill='#f4f4f4'/><path d='M0 0v5' stroke='#999' stroke-width='2'/></pattern></defs>\n"
    ++ bytes "<rect width='960' height='480' fill='#fff'/>\n"
    ++ bytes "<g font-size='18' font-weight='600' fill='#111'><text x='76' y='36'>NMI "

-- which channel and day it is
unfoldable pub title_text : List ℕ → List ℕ → ℕ → List ℕ
title_text nmi suffix date = text_in nmi (bytes " &#183; suffix ") suffix ++ bytes " &#183; " ++ date_text date

-- on its right what the day adds up to
unfoldable pub sum_text : ℕ → List ℕ → List ℕ
sum_text sum unit = bytes "</text><text x='940' y='36' text-anchor='end'>" ++ amount_text sum unit

-- the line below: how many intervals there are, and their length in minutes
unfoldable pub lengths_text : ℕ → List ℕ
lengths_text n =
    number_in (bytes "</text></g>\n<text x='76' y='56'>") n (bytes " intervals of ")
    ++ number_in [] (share_of 1440 n) (bytes " minutes</text><text x='940' y='56' text-anchor='end'>sum of the day</text>\n")

unfoldable pub head_text : List ℕ → List ℕ → List ℕ → ℕ → ℕ → ℕ → List ℕ
head_text nmi suffix unit date n sum = opening ++ title_text nmi suffix date ++ sum_text sum unit ++ lengths_text n

-- the line and the label of each third hour
unfoldable pub hour_text : ℕ → List ℕ
hour_text k =
    number_in (bytes "<g transform='translate(") (k * 108) (bytes " 0)'><path d='M0 4v-304' stroke='#e4e4e4'/><text y='19'>") ++ clock_text (k * 3) 0
    ++ bytes "</text></g>\n"

abbrev pub hours_text : List ℕ
hours_text = texts hour_text 9

-- the line and the label of a value, in a day with this largest value
unfoldable pub line_text : ℕ → ℕ → List ℕ
line_text most v =
    value_in (bytes "<g transform='translate(0 -") (height_of most v) (bytes ")'><path d='M-4 0h868' stroke='#d4d4d4'/><text x='-8' y='4'>")
    ++ value_in [] v (bytes "</text></g>\n")

-- step k of the axis, from 0
unfoldable pub step_text : ℕ → ℕ → List ℕ
step_text most k = line_text most (k * step_for most)

-- 0 and each step up to the top
unfoldable pub lines_text : ℕ → List ℕ
lines_text most = texts (step_text most) (steps_for most + 1)

-- the axis of values, with the unit above it
unfoldable pub values_text : ℕ → List ℕ → List ℕ
values_text most unit =
    text_in (bytes "</g>\n<g font-size='11' text-anchor='end'>\n<text x='-8' y='-318' font-weight='600'>") unit (bytes "</text>\n") ++ lines_text most
    ++ bytes "</g>\n"

-- the plot's origin, and both axes; the plot stays open for the bars
unfoldable pub grid_text : ℕ → List ℕ → List ℕ
grid_text most unit =
    bytes "<g transform='translate(76 400)' pointer-events='all'>\n<g font-size='11' text-anchor='middle'>\n" ++ hours_text ++ values_text most unit

-- the base line, over the bars, and the ends of the plot and the picture
abbrev pub ending : List ℕ
ending = bytes "<path d='M0 0h864' stroke='#444'/>\n</g>\n</svg>\n"
