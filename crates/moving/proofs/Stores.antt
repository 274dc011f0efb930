-- More laws of `sets l i vs`, l with vs stored from place i on: what the stores leave, and which of two runs may come first. Each goes along the stored bytes.
-- Assumes nothing.
use Prim.Native.Nat.{ℕ, suc, ◌+◌, ◌≤◌}
use mathlib.Core.Path.{◌≡◌, refl, ap, ◌∙◌}
use mathlib.Core.List.{List, [], ◌∷◌}
use native.Mathlib.Omega.{arith}
use lib.ListN.{length, set, take, drop}
use lib.Seq.{sets, drop-set-lt, take-set-le}
use Rattle.ground.proofs.Room.{sets-after}

-- stores leave what is before them, and what is behind them
pub take-sets : (n : ℕ) (l : List ℕ) (i : ℕ) (vs : List ℕ) → n ≤ i → take n (sets l i vs) ≡ take n l
take-sets n l i [] h = refl
take-sets n l i (v ∷ vs) h = take-sets n (set l i v) (suc i) vs (omega arith) ∙ take-set-le n l i v h

pub drop-sets : (n : ℕ) (l : List ℕ) (i : ℕ) (vs : List ℕ) → i + length vs ≤ n → drop n (sets l i vs) ≡ drop n l
drop-sets n l i [] h = refl
drop-sets n l i (v ∷ vs) h = drop-sets n (set l i v) (suc i) vs (omega arith) ∙ drop-set-lt n l i v (omega arith)

-- a run of stores behind another may come first
pub sets-later : (l : List ℕ) (i j : ℕ) (xs ys : List ℕ) → i + length xs ≤ j → sets (sets l j ys) i xs ≡ sets (sets l i xs) j ys
sets-later l i j xs [] h = refl
sets-later l i j xs (y ∷ ys) h =
    sets-later (set l j y) i (suc j) xs ys (omega arith)
    ∙ ap (λ (m : List ℕ). sets m (suc j) ys) (sets-after l i j y xs h)
