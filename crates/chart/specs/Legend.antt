-- The legend below the plot: what each colour means, and how many intervals have it.
use Rattle.std.specs.Prelude.{ℕ, List, ◌++◌, take}
use Rattle.ground.specs.Text.{bytes}
use Rattle.format.specs.Quality.{flag_a, flag_e, flag_f, flag_n, flag_s}
use Rattle.words.specs.Qualities.{quality_name}
use Rattle.measures.specs.Counts.{count_of}
use Rattle.chart.specs.Parts.{number_in, colour_text, band_text}

-- a square as the quality's columns are
unfoldable pub hatch_text : ℕ → List ℕ
hatch_text flag = bytes "<rect width='14' height='14'" ++ band_text flag

-- what the quality is called, and how many intervals have it
unfoldable pub named_text : ℕ → ℕ → List ℕ
named_text flag count = bytes "<text x='21' y='11.5'>" ++ quality_name flag ++ number_in (bytes ": ") count (bytes "</text></g>\n")

-- the entry of a quality at x, of the first n flags: a square as its bars are, that of its columns over it, its name and its count
unfoldable pub entry_text : List ℕ → ℕ → ℕ → ℕ → List ℕ
entry_text flags n x flag =
    number_in (bytes "<g transform='translate(") x (bytes " 42)'><rect width='14' height='14'") ++ colour_text flag ++ hatch_text flag
    ++ named_text flag (count_of flag (take n flags))

-- actual, estimated and final substituted, far enough apart for counts of three digits
unfoldable pub first_text : List ℕ → ℕ → List ℕ
first_text flags n = entry_text flags n 0 flag_a ++ entry_text flags n 161 flag_e ++ entry_text flags n 342 flag_f

-- and behind them substituted and null data
unfoldable pub legend_text : List ℕ → ℕ → List ℕ
legend_text flags n = first_text flags n ++ entry_text flags n 563 flag_s ++ entry_text flags n 754 flag_n
