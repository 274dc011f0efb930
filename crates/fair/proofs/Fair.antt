-- What the rule of the largest remainders comes to: the parts add up, weight 0 gets 0, each is rounded, and who is served first. Assumes nothing.
use Prim.Native.Nat.{ℕ, zero, suc, ◌+◌, ◌-◌, ◌*◌, ◌/◌, ◌%◌, ◌≤◌, ◌<◌}
use mathlib.Core.Path.{◌≡◌, refl, sym, ap, ◌∙◌}
use mathlib.Core.List.{List, [], ◌∷◌, map}
use native.Mathlib.Nat.{add-zero, mul-zero, zero-div, zero-mod, zero-add}
use native.Mathlib.Omega.{arith}
use lib.ListN.{length, get_or, length-map}
use lib.Dec.{ltb}
use borrow.Author.Tests.{lt-ltb, le-ltb}
use Rattle.ground.specs.Lists.{sum, from}
use Rattle.ground.proofs.Cases.{split}
use Rattle.shares.specs.Shares.{one, count, floors, remainders, leftover, ahead, part_of, parts_of}
use Rattle.shares.proofs.Counts.{one-most, count-length, ahead_small}
use Rattle.fair.proofs.Ranks.{over, over-same, over_add, within, first_count, larger-first, lower-first}
use Rattle.shares.proofs.Sums.{floors-most, leftover-most}

-- a sum over a list, place by place
pub sum-from : (f : ℕ → ℕ) (j n : ℕ) → sum (from f j n) ≡ over (λ (i : ℕ). f (j + i)) n
unfolding from over
sum-from f j zero = refl
sum-from f j (suc n) =
    let a = sum-from f (suc j) n in
    let b = over-same (λ (i : ℕ). f (suc j + i)) (λ (i : ℕ). f (j + suc i)) n (λ i l. ap f (omega arith)) in
    rw (add-zero j) (omega arith)

pub sum-map : (f : ℕ → ℕ) (ws : List ℕ) → sum (map f ws) ≡ over (λ (i : ℕ). f (get_or ws i 0)) (length ws)
unfolding over
sum-map f [] = refl
sum-map f (w ∷ ws) = let a = sum-map f ws in omega arith

-- as many get one more as remain to be given out
pub given_out : (t : ℕ) (ws : List ℕ) → 0 < sum ws → over (within (remainders t ws) (leftover t ws)) (length ws) ≡ leftover t ws
unfolding remainders
given_out t ws h =
    let e = length-map ws (λ (w : ℕ). t * w % sum ws) in
    rw (← e) (first_count (remainders t ws) (leftover t ws) (omega (arith, leftover-most t ws h, count-length (ltb 0) (remainders t ws))))

together : {t f o l : ℕ} → o ≡ f → l ≡ t - f → f ≤ t → o + l ≡ t
together p q h = omega arith

-- "The parts add up to the day's total"
pub adds-up : (t : ℕ) (ws : List ℕ) → 0 < sum ws → sum (parts_of t ws) ≡ t
unfolding parts_of part_of floors leftover
adds-up t ws h =
    let a = sum-from (part_of t ws) 0 (length ws) in
    let c : over (λ (i : ℕ). part_of t ws (0 + i)) (length ws) ≡ over (λ (i : ℕ). t * get_or ws i 0 / sum ws + within (remainders t ws) (leftover t ws) i) (length ws) =
    over-same (λ (i : ℕ). part_of t ws (0 + i)) (part_of t ws) (length ws) (λ i l. ap (part_of t ws) (zero-add i)) in
    let b = over_add (λ (i : ℕ). t * get_or ws i 0 / sum ws) (within (remainders t ws) (leftover t ws)) (length ws) in
    let d = sum-map (λ (w : ℕ). t * w / sum ws) ws in
    let e = given_out t ws h in
    a ∙ c ∙ b ∙ together (sym d) e (floors-most t ws h)

nothing_left : (t s : ℕ) (ws : List ℕ) (i : ℕ) → get_or ws i 0 ≡ 0 → get_or (map (λ (w : ℕ). t * w % s) ws) i 0 ≡ 0
nothing_left t s [] i e = refl
nothing_left t s (w ∷ ws) zero e = rw (e, mul-zero t, zero-mod s)
nothing_left t s (w ∷ ws) (suc i) e = nothing_left t s ws i e

-- "outputs of other channels get 0": so does every output of weight 0
pub none-for-none : (t : ℕ) (ws : List ℕ) (i : ℕ) → 0 < sum ws → get_or ws i 0 ≡ 0 → part_of t ws i ≡ 0
unfolding part_of remainders
none-for-none t ws i h e =
    let q : get_or (remainders t ws) i 0 ≤ 0 = omega (arith, nothing_left t (sum ws) ws i e) in
    let a = ahead_small 0 (remainders t ws) i q in
    let b = le-ltb (ahead (remainders t ws) i) (leftover t ws) (omega (arith, leftover-most t ws h)) in
    rw (b, e, mul-zero t, zero-div (sum ws))

-- each gets its exact share rounded down, or one more
pub rounded : (t : ℕ) (ws : List ℕ) (i : ℕ) → (t * get_or ws i 0 / sum ws ≤ part_of t ws i) × (part_of t ws i ≤ t * get_or ws i 0 / sum ws + 1)
unfolding part_of
rounded t ws i = let a = one-most (ltb (ahead (remainders t ws) i) (leftover t ws)) in omega arith

-- what output j got beyond its rounded part
abbrev pub extra : ℕ → List ℕ → ℕ → ℕ
extra t ws j = one (ltb (ahead (remainders t ws) j) (leftover t ws))

pub part-is : (t : ℕ) (ws : List ℕ) (i : ℕ) → part_of t ws i ≡ t * get_or ws i 0 / sum ws + extra t ws i
unfolding part_of
part-is t ws i = refl

served : (t : ℕ) (ws : List ℕ) (i j : ℕ) → ahead (remainders t ws) i ≤ ahead (remainders t ws) j → extra t ws j ≤ extra t ws i
served t ws i j h =
    split (leftover t ws) (ahead (remainders t ws) j)
    (λ g. let a = ap one (le-ltb (ahead (remainders t ws) j) (leftover t ws) g) in omega arith)
    (λ g. let a = ap one (lt-ltb (ahead (remainders t ws) i) (leftover t ws) (omega arith)) in omega (arith, one-most (ltb (ahead (remainders t ws) j) (leftover t ws))))

-- whoever has the larger remainder gets its one first
pub larger-served : (t : ℕ) (ws : List ℕ) (i j : ℕ) → i < length ws → get_or (remainders t ws) j 0 < get_or (remainders t ws) i 0 → extra t ws j ≤ extra t ws i
unfolding remainders
larger-served t ws i j h g =
    served t ws i j (larger-first (remainders t ws) i j (omega (arith, length-map ws (λ (w : ℕ). t * w % sum ws))) g)

-- and of equal ones the lower
pub lower-served : (t : ℕ) (ws : List ℕ) (i j : ℕ) → i < j → get_or (remainders t ws) i 0 ≡ get_or (remainders t ws) j 0 → extra t ws j ≤ extra t ws i
lower-served t ws i j h e = served t ws i j (lower-first (remainders t ws) i j e h)

-- ---- examples

thirds : parts_of 10 (1 ∷ 1 ∷ 1 ∷ []) ≡ 4 ∷ 3 ∷ 3 ∷ []
unfolding parts_of part_of remainders leftover floors ahead count from
thirds = refl

-- 7 by 2, 0, 1, 1: rounded 3, 0, 1, 1, with remainders 2, 0, 3, 3 and two to give out
largest-first : parts_of 7 (2 ∷ 0 ∷ 1 ∷ 1 ∷ []) ≡ 3 ∷ 0 ∷ 2 ∷ 2 ∷ []
unfolding parts_of part_of remainders leftover floors ahead count from
largest-first = refl

lower-when-equal : parts_of 1 (0 ∷ 1 ∷ 1 ∷ []) ≡ 0 ∷ 1 ∷ 0 ∷ []
unfolding parts_of part_of remainders leftover floors ahead count from
lower-when-equal = refl
