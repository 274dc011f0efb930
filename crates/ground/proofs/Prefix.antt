-- The first elements that pass a test: they pass, the one behind them does not, and the list up to a later place does not either.
-- Assumes nothing.
use Prim.Native.Nat.{ℕ, zero, suc, ◌≤◌, ◌<◌}
use mathlib.Core.Path.{◌≡◌, refl}
use mathlib.Core.Bool.{Bool, true, false, cond, ◌&&◌, false≢true}
use mathlib.Core.List.{List, [], ◌∷◌}
use native.Mathlib.Omega.{arith}
use lib.ListN.{length, get_or, take}
use Rattle.ground.specs.Lists.{all, span_of}

module _ (p : ℕ → Bool) where
  -- the first elements themselves
  pub prefix-all : (s : List ℕ) → all p (take (span_of p s) s) ≡ true
  unfolding span_of
  prefix-all [] = refl
  prefix-all (b ∷ s) = one (p b) refl (prefix-all s)
    where
      one : (t : Bool) → p b ≡ t → all p (take (span_of p s) s) ≡ true → all p (take (cond t (suc (span_of p s)) 0) (b ∷ s)) ≡ true
      one true e h = rw e h
      one false e h = refl

  -- the element behind them
  pub prefix-end : (s : List ℕ) → span_of p s < length s → p (get_or s (span_of p s) 0) ≡ false
  unfolding span_of
  prefix-end [] h = absurd (let z : ⊥ = omega arith in z)
  prefix-end (b ∷ s) h = one (p b) refl (λ k. prefix-end s k) h
    where
      one : (t : Bool) → p b ≡ t → (span_of p s < length s → p (get_or s (span_of p s) 0) ≡ false)
          → cond t (suc (span_of p s)) 0 < suc (length s) → p (get_or (b ∷ s) (cond t (suc (span_of p s)) 0) 0) ≡ false
      one true e ih k = ih (omega arith)
      one false e ih k = e

  -- an element that does not pass stands at the first place or behind it
  pub prefix-most : (s : List ℕ) (i : ℕ) → i < length s → p (get_or s i 0) ≡ false → span_of p s ≤ i
  unfolding span_of
  prefix-most [] i h e = absurd (let z : ⊥ = omega arith in z)
  prefix-most (b ∷ s) i h e = one (p b) refl i h e (λ j k g. prefix-most s j k g)
    where
      one : (t : Bool) → p b ≡ t → (j : ℕ) → j < suc (length s) → p (get_or (b ∷ s) j 0) ≡ false
          → ((k : ℕ) → k < length s → p (get_or s k 0) ≡ false → span_of p s ≤ k) → cond t (suc (span_of p s)) 0 ≤ j
      one false q j g r ih = omega arith
      one true q zero g r ih = absurd (false≢true (let z : false ≡ true = cc in z))
      one true q (suc j) g r ih = let z = ih j (omega arith) r in omega arith

  -- what reaches past them does not pass as a whole
  pub prefix-past : (s : List ℕ) (m : ℕ) → span_of p s < m → m ≤ length s → all p (take m s) ≡ false
  unfolding span_of
  prefix-past [] m h l = absurd (let z : ⊥ = omega arith in z)
  prefix-past (b ∷ s) zero h l = absurd (let z : ⊥ = omega arith in z)
  prefix-past (b ∷ s) (suc m) h l = one (p b) refl h (λ k. prefix-past s m k (omega arith))
    where
      one : (t : Bool) → p b ≡ t → cond t (suc (span_of p s)) 0 < suc m → (span_of p s < m → all p (take m s) ≡ false)
          → p b && all p (take m s) ≡ false
      one true e k ih = rw (e, ih (omega arith))
      one false e k ih = rw e

-- a test that asks less reaches no less far
pub prefix-wider : (p q : ℕ → Bool) → ((b : ℕ) → p b ≡ true → q b ≡ true) → (s : List ℕ) → span_of p s ≤ span_of q s
unfolding span_of
prefix-wider p q w [] = omega arith
prefix-wider p q w (b ∷ s) = one (p b) (q b) refl refl (prefix-wider p q w s)
  where
    one : (t u : Bool) → p b ≡ t → q b ≡ u → span_of p s ≤ span_of q s → cond t (suc (span_of p s)) 0 ≤ cond u (suc (span_of q s)) 0
    one true true e f h = omega arith
    one true false e f h = absurd (false≢true (let z = w b e in cc))
    one false u e f h = omega arith
