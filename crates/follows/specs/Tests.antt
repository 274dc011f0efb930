-- What single tests of what may follow say: the number in the code's state, a 400's intervals, a mark whose description is a place of the file.
use Rattle.std.specs.Prelude.{ℕ, ◌+◌, List, Bool, cond, ◌&&◌, leb, eqb}
use Rattle.ground.specs.Lists.{part}
use Rattle.format.specs.Quality.{Mark}
use Rattle.format.specs.Order.{Expected, the100, first200, first300, under_day, under_varied, behind500, first250, behind250, behind550, the_end}
use Rattle.format.specs.declared.Tag.{Tag}

-- the mark of a tag: its description is the bytes of the file at the tag's place
abbrev pub mark_of : List ℕ → Tag → Mark
mark_of file t = record { flag = t.flag; method = t.method; reason = t.reason; text = part file t.start (t.start + t.length) }

-- what the number in the code's state stands for
unfoldable pub expected_as : ℕ → Expected
expected_as x =
    cond (eqb x 0) the100
    (cond (eqb x 1) first200
    (cond (eqb x 2) first300
    (cond (eqb x 3) under_day
    (cond (eqb x 4) under_varied
    (cond (eqb x 5) behind500
    (cond (eqb x 6) first250
    (cond (eqb x 7) behind250
    (cond (eqb x 8) behind550 the_end))))))))

-- x is one of the numbers from a to b
abbrev pub between : ℕ → ℕ → ℕ → Bool
between a b x = leb a x && leb x b

-- intervals from a to b go on with a cover whose next interval is given, in a day of n
unfoldable pub goes_on : ℕ → ℕ → ℕ → ℕ → Bool
goes_on next n a b = eqb a next && (leb a b && leb b n)
