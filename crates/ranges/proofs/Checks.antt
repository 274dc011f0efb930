-- The check that ranges lie apart: its cases and its loops. Assumes nothing.
use Prim.Native.Nat.{ℕ, ◌+◌, ◌≤◌, ◌<◌}
use mathlib.Core.Path.{◌≡◌, refl, sym, ◌∙◌}
use mathlib.Core.List.{List, [], ◌∷◌}
use mathlib.Core.Bool.{Bool, true, false, not, ◌&&◌, false≢true}
use native.Mathlib.Omega.{arith}
use lib.ListN.{length, drop, get_or, drop_of_length-le}
use lib.Dec.{leb, eqb}
use borrow.Author.Tests.{le-leb, lt-leb, eq-eqb, ne_eqb, not-true, not-false}
use Rattle.ground.proofs.Tests.{and-true, or-true, or-false, refuted}
use Rattle.ground.proofs.Lists.{rest}
use Rattle.store.specs.Ranges.{inside, apart, clear, laid}

-- ---- one range, two ranges

pub apart-empty : (o n p k : ℕ) → n ≡ 0 → true ≡ apart o n p k
unfolding apart
apart-empty o n p k e = simp (eq-eqb n 0 e)

pub apart-before : (o n p k : ℕ) → o + n ≤ p → true ≡ apart o n p k
unfolding apart
apart-before o n p k h = simp (le-leb (o + n) p h, or-true)

pub apart-behind : (o n p k : ℕ) → p + k ≤ o → true ≡ apart o n p k
unfolding apart
apart-behind o n p k h = simp (le-leb (p + k) o h, or-true)

pub apart-else : (o n p k : ℕ) → p < o + n → o < p + k → (n ≡ 0 → ⊥) → eqb k 0 ≡ apart o n p k
unfolding apart
apart-else o n p k h g a = simp (ne_eqb n 0 a, lt-leb (o + n) p h, lt-leb (p + k) o g, or-false)

pub inside-none : (m o n : ℕ) → n ≡ 0 → true ≡ inside m o n
unfolding inside
inside-none m o n e = simp (eq-eqb n 0 e)

pub inside-some : (m o n : ℕ) → (n ≡ 0 → ⊥) → leb (o + n) m ≡ inside m o n
unfolding inside
inside-some m o n e = simp (ne_eqb n 0 e)

-- ---- a range against those behind it: j is the next

pub record Clearing (os ns : List ℕ) (o n i j : ℕ) : Type 0 where
  pub within : j ≤ length os
  pub left : clear o n (drop j os) (drop j ns) ≡ clear o n (drop (i + 1) os) (drop (i + 1) ns)

module _ (os ns : List ℕ) (o n i : ℕ) where
  pub clearing-none : (j : ℕ) → i < length os → j ≡ i + 1 → Clearing os ns o n i j
  clearing-none j h e = rw e (record { within = omega arith; left = refl })

  module _ (j : ℕ) (b : Bool) (as_many : length os ≡ length ns) (h : j < length os) (e : b ≡ apart o n (get_or os j 0) (get_or ns j 0))
      (r : Clearing os ns o n i j) where
    pub clearing-more : not b ≡ false → Clearing os ns o n i (j + 1)
    unfolding clear
    clearing-more t = record { within = omega arith; left = rw (rest os j h, rest ns j (omega arith), ← e, not-false b t) at r.left }

    pub clearing-stops : not b ≡ true → false ≡ clear o n (drop (i + 1) os) (drop (i + 1) ns)
    unfolding clear
    clearing-stops t = rw (rest os j h, rest ns j (omega arith), ← e, not-true b t) at r.left

  pub clearing-all : (j : ℕ) → length os ≤ j → Clearing os ns o n i j → true ≡ clear o n (drop (i + 1) os) (drop (i + 1) ns)
  unfolding clear
  clearing-all j h r = rw (drop_of_length-le os h) at r.left

-- ---- all of them: i is the next

pub record Laying (m : ℕ) (os ns : List ℕ) (i : ℕ) : Type 0 where
  pub within : i ≤ length os
  pub as_many : length os ≡ length ns
  pub left : laid m (drop i os) (drop i ns) ≡ laid m os ns

unlike : (m : ℕ) (os ns : List ℕ) → laid m os ns ≡ true → length os ≡ length ns
unfolding laid
unlike m [] [] e = refl
unlike m [] (n ∷ ns) e = absurd (false≢true e)
unlike m (o ∷ os) [] e = absurd (false≢true e)
unlike m (o ∷ os) (n ∷ ns) e = let h = unlike m os ns (and-true (inside m o n && clear o n os ns) (laid m os ns) e).1 in omega arith

module _ (m : ℕ) (os ns : List ℕ) where
  pub laying-unlike : (length os ≡ length ns → ⊥) → false ≡ laid m os ns
  laying-unlike h = refuted (laid m os ns) (λ e. h (unlike m os ns e))

  pub laying-none : length os ≡ length ns → Laying m os ns 0
  laying-none e = record { within = omega arith; as_many = e; left = refl }

  module _ (i : ℕ) (b : Bool) (h : i < length os) (e : b ≡ inside m (get_or os i 0) (get_or ns i 0)) (r : Laying m os ns i) where
    at_i : laid m os ns ≡ (b && clear (get_or os i 0) (get_or ns i 0) (drop (i + 1) os) (drop (i + 1) ns) && laid m (drop (i + 1) os) (drop (i + 1) ns))
    unfolding laid
    at_i = sym (rw (rest os i h, rest ns i (omega (arith, r.as_many)), ← e) at r.left)

    pub laying-outside : not b ≡ true → false ≡ laid m os ns
    laying-outside t = sym (at_i ∙ rw (not-true b t))

    module _ (d : Bool) (f : d ≡ clear (get_or os i 0) (get_or ns i 0) (drop (i + 1) os) (drop (i + 1) ns)) where
      pub laying-over : not b ≡ false → not d ≡ true → false ≡ laid m os ns
      laying-over t s = sym (at_i ∙ rw (← f, not-false b t, not-true d s))

      pub laying-more : not b ≡ false → not d ≡ false → Laying m os ns (i + 1)
      laying-more t s = record { within = omega arith; as_many = r.as_many; left = sym (at_i ∙ rw (← f, not-false b t, not-false d s)) }

  pub laying-all : (i : ℕ) → length os ≤ i → Laying m os ns i → true ≡ laid m os ns
  unfolding laid
  laying-all i h r = rw (drop_of_length-le os h, drop_of_length-le ns {i = i} (omega (arith, r.as_many))) at r.left
