-- The marks of a day as tags, one for each interval.
use Rattle.std.specs.Prelude.{ℕ, List, Bool, true, cond, replicate, eqb}
use Rattle.format.specs.Day.{Row, cover_of, tag_at}
use Rattle.format.specs.declared.Tag.{Tag}
use Rattle.passing.specs.Sound.{covers_from}

-- the tags of the intervals, by the 400s
unfoldable pub run_tags : List Row → List Tag
run_tags xs = cover_of (λ x. tag_at 400 x 3) xs

-- the tags of a day whose 300 has the tag t: on a V day those of its 400s, else t itself
unfoldable pub tags_for : Tag → ℕ → List Row → List Tag
tags_for t n xs = cond (eqb t.flag 86) (run_tags xs) (replicate n t)

-- the 400s of such a day cover it, where they have to
unfoldable pub is_covered : Tag → ℕ → List Row → Bool
is_covered t n xs = cond (eqb t.flag 86) (covers_from 0 n xs) true
