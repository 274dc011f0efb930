-- 02, 12: "each output on that channel gets total times share over the channel's sum of shares, rounded down, with what remains given one each to the
-- largest remainders, lower output first when equal." Here a total t is shared out by a list of weights: an output's share where it is on the channel, else 0.
use Rattle.std.specs.Prelude.{ℕ, ◌+◌, ◌-◌, ◌*◌, ◌/◌, ◌%◌, List, [], ◌∷◌, map, Bool, true, false, length, get_or, take, eqb, ltb}
use Rattle.ground.specs.Lists.{from, sum}

-- 1 where the test holds, else 0
abbrev pub one : Bool → ℕ
one true = 1
one false = 0

-- how many elements pass the test
unfoldable pub count : {X : Type 0} → (X → Bool) → List X → ℕ
count p [] = 0
count p (x ∷ xs) = one (p x) + count p xs

-- "total times share over the channel's sum of shares, rounded down", for each output
unfoldable pub floors : ℕ → List ℕ → List ℕ
floors t ws = map (λ (w : ℕ). t * w / sum ws) ws

-- what the rounding took from each
unfoldable pub remainders : ℕ → List ℕ → List ℕ
remainders t ws = map (λ (w : ℕ). t * w % sum ws) ws

-- "what remains"
unfoldable pub leftover : ℕ → List ℕ → ℕ
leftover t ws = t - sum (floors t ws)

-- how many come before output i where "the largest remainders" come first, "lower output first when equal":
-- all those with a larger remainder, and of the lower outputs those with the same
unfoldable pub ahead : List ℕ → ℕ → ℕ
ahead rs i = count (ltb (get_or rs i 0)) rs + count (eqb (get_or rs i 0)) (take i rs)

-- output i's part: rounded down, and one more if fewer come before it than remain to be given out
unfoldable pub part_of : ℕ → List ℕ → ℕ → ℕ
part_of t ws i = t * get_or ws i 0 / sum ws + one (ltb (ahead (remainders t ws) i) (leftover t ws))

-- every output's part
unfoldable pub parts_of : ℕ → List ℕ → List ℕ
parts_of t ws = from (part_of t ws) 0 (length ws)
