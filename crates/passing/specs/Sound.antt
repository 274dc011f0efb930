-- What a check of the file leaves to be relied on where a day is read: its 300 has a field for each of n values and seven more, and the 400s of a V day
-- cover its intervals in order.
use Rattle.std.specs.Prelude.{ℕ, ◌+◌, List, [], ◌∷◌, Bool, true, cond, ◌&&◌, length, leb, eqb}
use Rattle.ground.specs.Lists.{all}
use Rattle.format.specs.Records.{first_in, last_in}
use Rattle.format.specs.Order.{is_varied}
use Rattle.format.specs.Day.{Row, BlockRows, DayRows}

-- the 400s cover the intervals behind the first k up to n, in order
unfoldable pub covers_from : ℕ → ℕ → List Row → Bool
covers_from k n [] = eqb k n
covers_from k n (x ∷ xs) =
    (eqb (first_in x.cells) (k + 1) && (leb (first_in x.cells) (last_in x.cells) && leb (last_in x.cells) n))
    && covers_from (last_in x.cells) n xs

unfoldable pub is_sound : BlockRows → Bool
is_sound d = eqb (length d.top.cells) (d.n + 7) && cond (is_varied d.n d.top.cells) (covers_from 0 d.n d.runs) true

-- the days of a file are
abbrev pub are_sound : List DayRows → Bool
are_sound ds = all (λ d. is_sound d.block) ds
