-- The axis of values: from 0 in round steps up to the first that reaches the largest value of the day. Values are in millionths of the unit.
use Rattle.std.specs.Prelude.{ℕ, zero, suc, ◌+◌, ◌-◌, ◌*◌, ◌/◌, cond, List, [], ◌∷◌, take, leb, ltb, eqb}

-- the larger of two
unfoldable pub larger : ℕ → ℕ → ℕ
larger m x = cond (ltb m x) x m

-- the largest of m and a list
unfoldable pub largest_of : ℕ → List ℕ → ℕ
largest_of m [] = m
largest_of m (x ∷ xs) = largest_of (larger m x) xs

-- the largest of the first n values, 0 of none
unfoldable pub most_of : List ℕ → ℕ → ℕ
most_of values n = largest_of 0 (take n values)

-- what the axis has to reach: the largest value, 1 unit where it is 0, and never more than 9999999.999999, the largest that a file may hold
unfoldable pub reach_of : ℕ → ℕ
reach_of most = cond (eqb most 0) 1000000 (cond (leb most 9999999999999) most 9999999999999)

-- the smallest of 1, 2 and 5 times `ten` of which 5 reach, if any does
unfoldable pub step_in : ℕ → ℕ → ℕ
step_in ten reach = cond (leb reach (ten * 5)) ten (cond (leb reach (ten * 10)) (ten * 2) (ten * 5))

-- the smallest step of which 5 reach, of 1, 2 and 5 times `ten`, then of ten times that, and so on, k powers of ten in all
unfoldable pub step_from : ℕ → ℕ → ℕ → ℕ
step_from zero ten reach = ten
step_from (suc k) ten reach = cond (leb reach (ten * 25)) (step_in ten reach) (step_from k (ten * 10) reach)

-- the step: the smallest of 1, 2, 5, 10, 20, 50, .. millionths of which 5 reach; 13 powers of ten are enough for all that a file may hold
unfoldable pub step_for : ℕ → ℕ
step_for most = step_from 13 1 (reach_of most)

-- how many steps the axis has: as few as reach
unfoldable pub steps_for : ℕ → ℕ
steps_for most = (reach_of most + step_for most - 1) / step_for most

-- the value at the top of the axis
unfoldable pub top_for : ℕ → ℕ
top_for most = steps_for most * step_for most

-- how high a value stands on an axis that is 300 high up to its top: in millionths, of which it tells hundredths apart. What is above the top stands at the top.
unfoldable pub height_on : ℕ → ℕ → ℕ
height_on top v = cond (ltb v top) v top * 30000 / top * 10000

-- how high a value stands, in a day with this largest value
unfoldable pub height_of : ℕ → ℕ → ℕ
height_of most v = height_on (top_for most) v
