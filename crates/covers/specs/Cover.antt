-- The runs of the marks that f gives to the intervals, from interval i up to the first n of them, as a loop over the intervals meets them.
use Rattle.std.specs.Prelude.{ℕ, ◌+◌, ◌-◌, ◌≤◌, ◌<◌, ◌≡◌, true, List, ◌∷◌, ◌++◌, length}
use Rattle.ground.specs.Lists.{from}
use Rattle.ground.specs.Text.{bytes}
use Rattle.ground.specs.Digits.{dec}
use Rattle.ground.specs.Runs.{run}
use Rattle.format.specs.Quality.{Mark}
use Rattle.format.specs.Day.{Five}
use Rattle.format.specs.Block.{comma, cover_text, runs_in}
use Rattle.fit.specs.Tags.{fit_marks, Long}

-- the 400s, and how many they are
unfoldable pub cover_from : (ℕ → Mark) → ℕ → ℕ → List ℕ
cover_from f n i = cover_text i (runs_in (from f i (n - i)))

unfoldable pub count_from : (ℕ → Mark) → ℕ → ℕ → ℕ
count_from f n i = length (runs_in (from f i (n - i)))

-- a 400's indicator and its two intervals, those behind the first a up to e
unfoldable pub span_text : ℕ → ℕ → List ℕ
span_text a e = bytes "400," ++ dec (a + 1) ++ comma ++ dec e ++ comma

-- the first run ends before interval e
pub record RunEnds (f : ℕ → Mark) (n i e : ℕ) : Type 0 where
  pub above : i < e
  pub within : e ≤ n
  pub first : runs_in (from f i (n - i)) ≡ run (e - i) (f i) ∷ runs_in (from f e (n - e))

-- the five lists have n fit marks
pub record Marked (l : Five) (text : List ℕ) (n : ℕ) : Type 0 where
  pub long : Long n l
  pub fit : fit_marks l text n ≡ true
  pub few : n ≤ 288

-- so many bytes and records are the 400s of n intervals
pub record Sized (f : ℕ → Mark) (n bytes records : ℕ) : Type 0 where
  pub bytes-are : bytes ≡ length (cover_from f n 0)
  pub records-are : records ≡ count_from f n 0
  pub bytes_most : bytes ≤ 115200
  pub records-most : records ≤ 288
