-- What a function that puts a text on a page has done.
use Rattle.std.specs.Prelude.{ℕ, ◌-◌, List, length, take}
use Rattle.ground.specs.Room.{Put}

-- as much of the text as there is room for was written from place `at` on: `next` is the place behind it, and all else is as it was
pub record Filled (old : List ℕ) (at : ℕ) (text : List ℕ) (next : ℕ) (new : List ℕ) : Type 0 where
  pub put : Put old at (take (length old - at) text) next new
