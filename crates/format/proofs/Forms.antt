-- The two forms of a written block: one record where all marks are alike, else V and the 400s of the longest runs. Assumes nothing.
use mathlib.Core.Path.{◌≡◌}
use mathlib.Core.Bool.{true, false}
use mathlib.Core.List.{List, []}
use lib.ListN.{get_or}
use Rattle.ground.specs.Text.{bytes}
use Rattle.format.specs.Quality.{Mark, no_mark}
use Rattle.format.specs.Block.{mark_text, cover_text, runs_in, is_uniform, top_text, tail_text}

pub uniform-top : (ms : List Mark) → is_uniform ms ≡ true → top_text ms ≡ mark_text (get_or ms 0 no_mark)
unfolding top_text
uniform-top ms e = rw e

pub uniform-tail : (ms : List Mark) → is_uniform ms ≡ true → tail_text ms ≡ []
unfolding tail_text
uniform-tail ms e = rw e

pub varied-top : (ms : List Mark) → is_uniform ms ≡ false → top_text ms ≡ bytes "V,,"
unfolding top_text
varied-top ms e = rw e

pub varied-tail : (ms : List Mark) → is_uniform ms ≡ false → tail_text ms ≡ cover_text 0 (runs_in ms)
unfolding tail_text
varied-tail ms e = rw e
