-- 01, A day: "A 200's total is the sum of its days' values; a 250's is its quantity." And, in Refusal numbers: "Reading calls give the file's own refusal
-- first, then 14". 02, request 7, struck the 17 that followed: a total that 64 bits can't hold "never occurs", which is a theorem of the grammar's channels.
use Rattle.std.specs.Prelude.{ℕ, ◌+◌, List, [], ◌∷◌, cond, drop, eqb}
use Rattle.ground.specs.Lists.{sum}
use Rattle.format.specs.Cut.{Lines, line, rest, lines, fields}
use Rattle.format.specs.Records.{kind_in, intervals_in, values_in, quantity_in}
use Rattle.format.specs.Answers.{Answer, accepted, refused, refusal}
use Rattle.format.specs.File.{check_of}

-- the values of the days that stand before the next channel, each of n intervals
unfoldable pub sum_from : ℕ → Lines → ℕ
sum_from n (rest t) = 0
sum_from n (line r ls) =
    cond (eqb (kind_in (fields r)) 200) 0
    (cond (eqb (kind_in (fields r)) 300) (sum (values_in n (fields r)) + sum_from n ls) (sum_from n ls))

-- the totals of the channels in file order
unfoldable pub totals_from : Lines → List ℕ
totals_from (rest t) = []
totals_from (line r ls) =
    cond (eqb (kind_in (fields r)) 200) (sum_from (intervals_in (fields r)) ls ∷ totals_from ls)
    (cond (eqb (kind_in (fields r)) 250) (quantity_in (fields r) ∷ totals_from ls) (totals_from ls))

-- of the totals from the channel that is asked for, the first: none is 14
abbrev pub total_first : List ℕ → Answer
total_first [] = refusal 14
total_first (v ∷ vs) = accepted (v ∷ [])

abbrev pub total_after : Answer → Answer → Answer
total_after (accepted xs) a = a
total_after (refused x p k i) a = refused x p k i

unfoldable pub total_of : List ℕ → ℕ → Answer
total_of file channel = total_after (check_of file) (total_first (drop channel (totals_from (lines file))))
