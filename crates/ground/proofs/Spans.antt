-- How many of the first elements pass a test, and the parts of a list, as a loop and a slice have them. Assumes nothing.
use Prim.Native.Nat.{ℕ, zero, suc, ◌+◌, ◌-◌, ◌≤◌, ◌<◌}
use mathlib.Core.Path.{◌≡◌, refl}
use mathlib.Core.List.{List, [], ◌∷◌}
use mathlib.Core.Bool.{Bool, true, false, cond}
use native.Mathlib.Nat.{add-sub_cancel_left, sub-zero}
use native.Mathlib.Omega.{arith}
use lib.ListN.{length, get_or, take, drop, length-drop, drop_of_length-le}
use lib.Seq.{take-take, take-nil, length-take-le, drop-drop}
use Rattle.ground.specs.Lists.{all, span_of, part}
use Rattle.ground.proofs.Tests.{and-true}
use Rattle.ground.proofs.Cases.{by, both}
use Rattle.ground.proofs.Lists.{rest}

-- ---- a span, byte after byte: i is how far a loop has come

module _ (p : ℕ → Bool) (s : List ℕ) (i : ℕ) where
  -- the byte at i passes
  pub span-on : i < length s → p (get_or s i 0) ≡ true → span_of p s ≡ i + span_of p (drop i s) → span_of p s ≡ i + 1 + span_of p (drop (i + 1) s)
  unfolding span_of
  span-on h t e =
      let k : span_of p (drop i s) ≡ suc (span_of p (drop (i + 1) s)) = rw (rest s i h, t) in
      omega arith

  -- the byte at i does not pass
  pub span-stop : i < length s → p (get_or s i 0) ≡ false → span_of p s ≡ i + span_of p (drop i s) → i ≡ span_of p s
  unfolding span_of
  span-stop h t e =
      let k : span_of p (drop i s) ≡ 0 = rw (rest s i h, t) in
      omega arith

  -- every byte passed
  pub span-all : length s ≤ i → span_of p s ≡ i + span_of p (drop i s) → i ≡ span_of p s
  unfolding span_of
  span-all h e =
      let k : span_of p (drop i s) ≡ 0 = rw (drop_of_length-le s h) in
      omega arith

pub span-le : (p : ℕ → Bool) (s : List ℕ) → span_of p s ≤ length s
unfolding span_of
span-le p [] = omega arith
span-le p (b ∷ s) = go (p b) (span-le p s)
  where
    go : (t : Bool) → span_of p s ≤ length s → cond t (suc (span_of p s)) 0 ≤ suc (length s)
    go true h = omega arith
    go false h = omega arith

-- every byte passes exactly when the span is the whole list
pub all-span : (p : ℕ → Bool) (s : List ℕ) → all p s ≡ true → span_of p s ≡ length s
unfolding span_of
all-span p [] h = refl
all-span p (b ∷ s) h =
    let w = and-true (p b) (all p s) h in
    rw (w.0, all-span p s w.1)

pub spanned-all : (p : ℕ → Bool) (s : List ℕ) → span_of p s ≡ length s → all p s ≡ true
unfolding span_of
spanned-all p [] h = refl
spanned-all p (b ∷ s) h =
    by (p b)
    (λ e. both (p b) (all p s) e (spanned-all p s (let j : suc (span_of p s) ≡ suc (length s) = (rw e at h) in omega arith)))
    (λ e. absurd (let j : 0 ≡ suc (length s) = (rw e at h) in let z : ⊥ = omega arith in z))

-- a block of m bytes that all pass
pub span-block : (p : ℕ → Bool) (m : ℕ) (s : List ℕ) → m ≤ length s → all p (take m s) ≡ true → span_of p s ≡ m + span_of p (drop m s)
unfolding span_of
span-block p zero s h t = omega arith
span-block p (suc m) [] h t = absurd (let z : ⊥ = omega arith in z)
span-block p (suc m) (b ∷ s) h t =
    let a = and-true (p b) (all p (take m s)) t in
    rw a.0 (omega (arith, span-block p m s (omega arith) a.1))

-- ---- parts

-- `&s[a..e]` where e is `a + n`
pub part_cut : (a n : ℕ) (s : List ℕ) → take (a + n - a) s ≡ take n s
part_cut a n s = rw add-sub_cancel_left

pub part_length : (s : List ℕ) (a e : ℕ) → e ≤ length s → length (part s a e) ≡ e - a
part_length s a e h = length-take-le (e - a) (drop a s) (omega (arith, length-drop a s))

pub drop-take : (i m : ℕ) (s : List ℕ) → i ≤ m → drop i (take m s) ≡ take (m - i) (drop i s)
drop-take zero m s h = rw sub-zero
drop-take (suc i) zero s h = absurd (let z : ⊥ = omega arith in z)
drop-take (suc i) (suc m) [] h = rw take-nil
drop-take (suc i) (suc m) (x ∷ xs) h =
    let e : suc m - suc i ≡ m - i = omega arith in
    rw e (drop-take i m xs (omega arith))

-- what is left of a part
pub part-drop : (s : List ℕ) (a e k : ℕ) → a + k ≤ e → drop k (part s a e) ≡ part s (a + k) e
part-drop s a e k h =
    let m : e - a - k ≡ e - (a + k) = omega arith in
    rw (drop-take k (e - a) (drop a s) (omega arith), drop-drop k a s, m)

-- the first bytes of a part
pub part-take : (s : List ℕ) (a e n : ℕ) → n ≤ e - a → take n (part s a e) ≡ part s a (a + n)
part-take s a e n h = rw (take-take n (e - a) (drop a s) h, part_cut a n (drop a s))
