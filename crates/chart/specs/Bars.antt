-- The bar of an interval, in a plot whose origin is where the axes meet.
use Rattle.std.specs.Prelude.{ℕ, ◌+◌, ◌*◌, ◌/◌, ◌%◌, List, ◌++◌}
use Rattle.ground.specs.Text.{bytes}
use Rattle.words.specs.Qualities.{quality_name}
use Rattle.phrase.specs.Phrases.{clock_text}
use Rattle.measures.specs.Axis.{height_of}
use Rattle.chart.specs.Parts.{share_of, amount_text, value_in, colour_text, band_text}

-- so many minutes as a time
unfoldable pub minutes_text : ℕ → List ℕ
minutes_text m = clock_text (m / 60) (m % 60)

-- from when to when interval i is, of n in a day
unfoldable pub span_text : ℕ → ℕ → List ℕ
span_text i n = minutes_text (share_of (i * 1440) n) ++ bytes " to " ++ minutes_text (share_of ((i + 1) * 1440) n) ++ bytes ": "

-- what is shown where one points at the bar: the interval's times, its value and unit, and its quality
unfoldable pub hint_text : ℕ → ℕ → ℕ → ℕ → List ℕ → List ℕ
hint_text i n value flag unit = span_text i n ++ amount_text value unit ++ bytes ", " ++ quality_name flag

-- a length as an attribute, behind its name
unfoldable pub attribute_text : List ℕ → ℕ → List ℕ
attribute_text name v = value_in name v (bytes "'")

-- a rectangle on the base line, from its start up to its colour
unfoldable pub rect_text : List ℕ → ℕ → ℕ → ℕ → List ℕ
rect_text start x width height =
    attribute_text start x ++ attribute_text (bytes " y='-") height ++ attribute_text (bytes " width='") width ++ attribute_text (bytes " height='") height

-- interval i starts at x: 864 are shared by n
unfoldable pub x_of : ℕ → ℕ → ℕ
x_of i n = share_of (i * 864000000) n

-- the end of what is shown, and the whole height of the interval, which is there to be pointed at, and shows where there is no data
unfoldable pub column_text : ℕ → ℕ → ℕ → List ℕ
column_text i n flag = rect_text (bytes "</title><rect x='") (x_of i n) (share_of 864000000 n) 300000000 ++ band_text flag

-- as high as the value, and a ninth of the interval narrower than it, so that there is a gap to the next; and the interval's end
unfoldable pub pillar_text : ℕ → ℕ → ℕ → ℕ → ℕ → List ℕ
pillar_text i n value flag most = rect_text (bytes "<rect x='") (x_of i n) (share_of 768000000 n) (height_of most value) ++ colour_text flag ++ bytes "</g>\n"

-- interval i below 288
unfoldable pub interval_text : ℕ → ℕ → ℕ → ℕ → ℕ → List ℕ → List ℕ
interval_text i n value flag most unit =
    bytes "<g><title>" ++ hint_text i n value flag unit ++ column_text i n flag ++ pillar_text i n value flag most

-- no day has more than 288 intervals, so the remainder is i itself
unfoldable pub bar_text : ℕ → ℕ → ℕ → ℕ → ℕ → List ℕ → List ℕ
bar_text i = interval_text (i % 288)
