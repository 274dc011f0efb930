-- How many come before a place: exactly k places of a list have fewer than k before them. Assumes nothing.
use Prim.Native.Nat.{ℕ, zero, suc, ◌+◌, ◌≤◌, ◌<◌}
use mathlib.Core.Path.{◌≡◌, refl, sym, ap, ◌∙◌}
use mathlib.Core.List.{List, [], ◌∷◌}
use mathlib.Core.Bool.{Bool, ◌&&◌, ◌||◌}
use native.Mathlib.Omega.{arith}
use lib.ListN.{length, get_or, take}
use lib.Dec.{eqb, ltb}
use borrow.Author.Tests.{lt-ltb, le-ltb, eq-eqb, ne_eqb}
use Rattle.ground.proofs.Tests.{and-false, or-false}
use Rattle.ground.proofs.Cases.{split, same_or}
use Rattle.shares.specs.Shares.{one, count, ahead}
use Rattle.shares.proofs.Counts.{yes_lt, no_lt, yes-eq, no_eq, count_less, count-length, ahead_small}

-- a sum over the places below n
unfoldable pub over : (ℕ → ℕ) → ℕ → ℕ
over f zero = 0
over f (suc n) = f 0 + over (λ (i : ℕ). f (suc i)) n

pub over-same : (f g : ℕ → ℕ) (n : ℕ) → ((i : ℕ) → i < n → f i ≡ g i) → over f n ≡ over g n
unfolding over
over-same f g zero h = refl
over-same f g (suc n) h =
    let e = h 0 (omega arith) in
    let r = over-same (λ (i : ℕ). f (suc i)) (λ (i : ℕ). g (suc i)) n (λ i l. h (suc i) (omega arith)) in
    omega arith

pub over_add : (f g : ℕ → ℕ) (n : ℕ) → over (λ (i : ℕ). f i + g i) n ≡ over f n + over g n
unfolding over
over_add f g zero = refl
over_add f g (suc n) =
    let r = over_add (λ (i : ℕ). f (suc i)) (λ (i : ℕ). g (suc i)) n in
    omega arith

-- those that are larger than y or equal to it are larger than anything below y
both-less : (x y z : ℕ) → x < y → one (ltb y z) + one (eqb y z) ≤ one (ltb x z)
both-less x y z h =
    split z y
    (λ g. let a = no_lt y z g in
    same_or y z
    (λ e. let b = yes-eq y z e in let d = yes_lt x z (omega arith) in omega arith)
    (λ n. let b = no_eq y z n in omega arith))
    (λ g. let a = yes_lt y z g in let b = no_eq y z (λ e. omega arith) in let d = yes_lt x z (omega arith) in omega arith)

-- an element that is larger than x has fewer before it than are larger than x
pub ahead-large : (x : ℕ) (rs : List ℕ) (i : ℕ) → i < length rs → x < get_or rs i 0 → ahead rs i < count (ltb x) rs
unfolding ahead count
ahead-large x [] i h g = absurd (omega arith)
ahead-large x (z ∷ rs) zero h g =
    let a = no_lt z z (omega arith) in
    let b = yes_lt x z g in
    let d = count_less z x rs (omega arith) in
    omega arith
ahead-large x (z ∷ rs) (suc i) h g =
    let a = ahead-large x rs i (omega arith) g in
    let b = both-less x (get_or rs i 0) z g in
    omega arith

-- a new first element x: it comes before those that are not larger
on-small : (x : ℕ) (rs : List ℕ) (i : ℕ) → get_or rs i 0 ≤ x → ahead (x ∷ rs) (suc i) ≡ suc (ahead rs i)
unfolding ahead count
on-small x rs i h =
    same_or (get_or rs i 0) x
    (λ e. let a = yes-eq (get_or rs i 0) x e in let b = no_lt (get_or rs i 0) x (omega arith) in omega arith)
    (λ n. let a = no_eq (get_or rs i 0) x n in let b = yes_lt (get_or rs i 0) x (omega arith) in omega arith)

on-large : (x : ℕ) (rs : List ℕ) (i : ℕ) → x < get_or rs i 0 → ahead (x ∷ rs) (suc i) ≡ ahead rs i
unfolding ahead count
on-large x rs i h =
    let a = no_eq (get_or rs i 0) x (λ e. omega arith) in
    let b = no_lt (get_or rs i 0) x (omega arith) in
    omega arith

on-first : (x : ℕ) (rs : List ℕ) → ahead (x ∷ rs) 0 ≡ count (ltb x) rs
unfolding ahead count
on-first x rs = let a = no_lt x x (omega arith) in omega arith

-- whether place i is among the first k
abbrev pub within : List ℕ → ℕ → ℕ → ℕ
within rs k i = one (ltb (ahead rs i) k)

-- a first element with k or more that are larger isn't among the first k, and changes nothing for the others
under : (x : ℕ) (rs : List ℕ) (k i : ℕ) → k ≤ count (ltb x) rs → within (x ∷ rs) k (suc i) ≡ within rs k i
under x rs k i h =
    split (get_or rs i 0) x
    (λ g.
    let a = ahead_small x rs i g in
    let b = on-small x rs i g in
    no_lt (ahead (x ∷ rs) (suc i)) k (omega arith) ∙ sym (no_lt (ahead rs i) k (omega arith)))
    (λ g. ap (λ (n : ℕ). one (ltb n k)) (on-large x rs i g))

-- with fewer it is, and the others are among the first k if they were among one less
above : (x : ℕ) (rs : List ℕ) (m i : ℕ) → count (ltb x) rs ≤ m → i < length rs → within (x ∷ rs) (suc m) (suc i) ≡ within rs m i
above x rs m i h l =
    split (get_or rs i 0) x
    (λ g. let b = on-small x rs i g in
    split m (ahead rs i)
    (λ n. no_lt (ahead (x ∷ rs) (suc i)) (suc m) (omega arith) ∙ sym (no_lt (ahead rs i) m n))
    (λ n. yes_lt (ahead (x ∷ rs) (suc i)) (suc m) (omega arith) ∙ sym (yes_lt (ahead rs i) m n)))
    (λ g.
    let a = ahead-large x rs i l g in
    let b = on-large x rs i g in
    yes_lt (ahead (x ∷ rs) (suc i)) (suc m) (omega arith) ∙ sym (yes_lt (ahead rs i) m (omega arith)))

fewer : (x : ℕ) (rs : List ℕ) (k : ℕ) → k ≤ count (ltb x) rs → over (within rs k) (length rs) ≡ k → over (within (x ∷ rs) k) (suc (length rs)) ≡ k
unfolding over
fewer x rs k g e =
    let a = on-first x rs in
    let b = no_lt (ahead (x ∷ rs) 0) k (omega arith) in
    let d = over-same (λ (i : ℕ). within (x ∷ rs) k (suc i)) (within rs k) (length rs) (λ i l. under x rs k i g) in
    omega arith

more : (x : ℕ) (rs : List ℕ) (m : ℕ) → count (ltb x) rs ≤ m → over (within rs m) (length rs) ≡ m → over (within (x ∷ rs) (suc m)) (suc (length rs)) ≡ suc m
unfolding over
more x rs m g e =
    let a = on-first x rs in
    let b = yes_lt (ahead (x ∷ rs) 0) (suc m) (omega arith) in
    let d = over-same (λ (i : ℕ). within (x ∷ rs) (suc m) (suc i)) (within rs m) (length rs) (λ i l. above x rs m i g l) in
    omega arith

-- exactly k places have fewer than k before them
pub first_count : (rs : List ℕ) (k : ℕ) → k ≤ length rs → over (within rs k) (length rs) ≡ k
unfolding over
first_count [] k h = omega arith
first_count (x ∷ rs) zero h = fewer x rs zero (omega arith) (first_count rs zero (omega arith))
first_count (x ∷ rs) (suc m) h =
    split (suc m) (count (ltb x) rs)
    (λ g. fewer x rs (suc m) g (first_count rs (suc m) (omega (arith, count-length (ltb x) rs))))
    (λ g. more x rs m (omega arith) (first_count rs m (omega arith)))

-- ---- the order of giving out

count-take : (p : ℕ → Bool) (rs : List ℕ) (i j : ℕ) → i ≤ j → count p (take i rs) ≤ count p (take j rs)
unfolding count
count-take p rs zero j h = omega arith
count-take p [] (suc i) j h = omega arith
count-take p (z ∷ rs) (suc i) zero h = absurd (omega arith)
count-take p (z ∷ rs) (suc i) (suc j) h = let a = count-take p rs i j (omega arith) in omega arith

-- a larger element has fewer before it
pub larger-first : (rs : List ℕ) (i j : ℕ) → i < length rs → get_or rs j 0 < get_or rs i 0 → ahead rs i ≤ ahead rs j
larger-first rs i j h g = omega (arith, ahead-large (get_or rs j 0) rs i h g, ahead_small (get_or rs j 0) rs j (omega arith))

-- of equal elements the lower has no more before it
pub lower-first : (rs : List ℕ) (i j : ℕ) → get_or rs i 0 ≡ get_or rs j 0 → i < j → ahead rs i ≤ ahead rs j
unfolding ahead
lower-first rs i j e h = rw e (omega (arith, count-take (eqb (get_or rs j 0)) rs i j (omega arith)))

-- element j comes before an element y at place i: it is larger, or the same and at a lower place
abbrev pub precedes : List ℕ → ℕ → ℕ → ℕ → Bool
precedes rs y i j = ltb y (get_or rs j 0) || (eqb y (get_or rs j 0) && ltb j i)

shifted : (j i : ℕ) → ltb (suc j) (suc i) ≡ ltb j i
shifted j i = split i j (λ h. le-ltb (suc j) (suc i) (omega arith) ∙ sym (le-ltb j i h)) (λ h. lt-ltb (suc j) (suc i) (omega arith) ∙ sym (lt-ltb j i h))

head-none : (y z : ℕ) → one (ltb y z || (eqb y z && ltb 0 0)) ≡ one (ltb y z)
head-none y z = ap one (ap (λ (b : Bool). ltb y z || b) (and-false (eqb y z)) ∙ or-false (ltb y z))

head-some : (y z i : ℕ) → one (ltb y z || (eqb y z && ltb 0 (suc i))) ≡ one (ltb y z) + one (eqb y z)
head-some y z i =
    rw (lt-ltb 0 (suc i) (omega arith))
    (split z y
    (λ g. rw (le-ltb y z g) (same_or y z (λ e. rw (eq-eqb y z e)) (λ n. rw (ne_eqb y z n))))
    (λ g. rw (lt-ltb y z g, ne_eqb y z (λ e. omega arith))))

count-places : (y : ℕ) (rs : List ℕ) (i : ℕ) → count (ltb y) rs + count (eqb y) (take i rs) ≡ over (λ (j : ℕ). one (precedes rs y i j)) (length rs)
unfolding count over
count-places y [] zero = refl
count-places y [] (suc i) = refl
count-places y (z ∷ rs) zero =
    let a = count-places y rs zero in
    let b = head-none y z in
    let d = over-same (λ (j : ℕ). one (precedes rs y zero j)) (λ (j : ℕ). one (precedes (z ∷ rs) y zero (suc j))) (length rs)
    (λ j l. rw (le-ltb j zero (omega arith), le-ltb (suc j) zero (omega arith))) in
    omega arith
count-places y (z ∷ rs) (suc i) =
    let a = count-places y rs i in
    let b = head-some y z i in
    let d = over-same (λ (j : ℕ). one (precedes rs y i j)) (λ (j : ℕ). one (precedes (z ∷ rs) y (suc i) (suc j))) (length rs)
    (λ j l. rw (shifted j i)) in
    omega arith

-- `ahead` in the paper's words: it counts the places that come before place i
pub ahead-places : (rs : List ℕ) (i : ℕ) → ahead rs i ≡ over (λ (j : ℕ). one (precedes rs (get_or rs i 0) i j)) (length rs)
unfolding ahead
ahead-places rs i = count-places (get_or rs i 0) rs i
