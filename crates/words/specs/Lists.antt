-- Lists of texts with a semicolon between each two.
use Rattle.std.specs.Prelude.{ℕ, zero, suc, ◌+◌, ◌-◌, List, take, drop}
use Rattle.ground.specs.Lists.{span_of, other}

-- the first text of a list
unfoldable pub first_in : List ℕ → List ℕ
first_in s = take (span_of (other 59) s) s

-- the list behind its first text
unfoldable pub behind : List ℕ → List ℕ
behind s = drop (span_of (other 59) s + 1) s

-- the text of a number from 0
unfoldable pub text_at : ℕ → List ℕ → List ℕ
text_at zero s = first_in s
text_at (suc k) s = text_at k (behind s)

-- the text of a number from 1
abbrev pub numbered : ℕ → List ℕ → List ℕ
numbered number s = text_at (number - 1) s
