-- Counts of those that pass a test, and of those that come before a place. Assumes nothing.
use Prim.Native.Nat.{ℕ, ◌+◌, ◌≤◌, ◌<◌}
use mathlib.Core.Path.{◌≡◌, refl, ap, ◌∙◌}
use mathlib.Core.List.{List, [], ◌∷◌}
use mathlib.Core.Bool.{Bool, true, false}
use native.Mathlib.Omega.{arith}
use lib.ListN.{length, get_or}
use lib.Dec.{eqb, ltb, leb}
use borrow.Author.Tests.{lt-ltb, le-ltb, le-leb, lt-leb, eq-eqb, ne_eqb}
use Rattle.std.specs.List.{sum_by}
use Rattle.std.proofs.lemmas.List.Sums.{sum_by-cons}
use Rattle.ground.proofs.Cases.{split, same_or}
use Rattle.shares.specs.Shares.{one, count, ahead}

-- the value of a test of an order, from the order
pub yes_lt : (a b : ℕ) → a < b → one (ltb a b) ≡ 1
yes_lt a b h = ap one (lt-ltb a b h)

pub no_lt : (a b : ℕ) → b ≤ a → one (ltb a b) ≡ 0
no_lt a b h = ap one (le-ltb a b h)

pub yes-eq : (a b : ℕ) → a ≡ b → one (eqb a b) ≡ 1
yes-eq a b h = ap one (eq-eqb a b h)

pub no_eq : (a b : ℕ) → (a ≡ b → ⊥) → one (eqb a b) ≡ 0
no_eq a b h = ap one (ne_eqb a b h)

-- x or larger: larger, or equal
pub one-as-large : (x y : ℕ) → one (leb x y) ≡ one (ltb x y) + one (eqb x y)
one-as-large x y =
    split x y
    (λ h. let a = ap one (le-leb x y h) in
    same_or x y
    (λ e. let b = yes-eq x y e in let d = no_lt x y (omega arith) in omega arith)
    (λ n. let b = no_eq x y n in let d = yes_lt x y (omega arith) in omega arith))
    (λ h. let a = ap one (lt-leb x y h) in let b = no_eq x y (λ e. omega arith) in let d = no_lt x y (omega arith) in omega arith)

-- a larger bound is passed no more often
one_less : (x y z : ℕ) → y ≤ x → one (ltb x z) ≤ one (ltb y z)
one_less x y z h = split z x (λ g. let a = no_lt x z g in omega arith) (λ g. let a = yes_lt x z g in let b = yes_lt y z (omega arith) in omega arith)

pub count_less : (x y : ℕ) (rs : List ℕ) → y ≤ x → count (ltb x) rs ≤ count (ltb y) rs
unfolding count
count_less x y [] h = omega arith
count_less x y (z ∷ rs) h = let a = one_less x y z h in let b = count_less x y rs h in omega arith

pub one-most : (b : Bool) → one b ≤ 1
one-most true = omega arith
one-most false = omega arith

pub count-length : {X : Type 0} (p : X → Bool) (rs : List X) → count p rs ≤ length rs
unfolding count
count-length p [] = omega arith
count-length p (z ∷ rs) = let a = count-length p rs in let b = one-most (p z) in omega arith

-- std's sum of the tests' values
pub count-sum : (p : ℕ → Bool) (rs : List ℕ) → sum_by (λ (r : ℕ). one (p r)) rs ≡ count p rs
unfolding count
count-sum p [] = refl
count-sum p (z ∷ rs) = sum_by-cons (λ (r : ℕ). one (p r)) z rs ∙ ap (λ (s : ℕ). one (p z) + s) (count-sum p rs)

-- an element that is not larger than x has at least as many before it as are larger than x
pub ahead_small : (x : ℕ) (rs : List ℕ) (i : ℕ) → get_or rs i 0 ≤ x → count (ltb x) rs ≤ ahead rs i
unfolding ahead
ahead_small x rs i h = let a = count_less x (get_or rs i 0) rs h in omega arith
