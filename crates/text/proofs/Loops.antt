-- What a turn and the end of each loop go by: bytes copied, digits written from the last one on, digits counted. Each invariant says
-- what is left to do. Assumes nothing.
use Prim.Native.Nat.{ℕ, suc, ◌+◌, ◌-◌, ◌/◌, ◌%◌, ◌*◌, ◌^◌, ◌≤◌, ◌<◌}
use mathlib.Core.Path.{◌≡◌, refl, sym, ap, ◌∙◌}
use mathlib.Core.List.{List}
use native.Mathlib.Nat.{add-zero, pow-le-pow_right}
use native.Mathlib.Omega.{arith}
use lib.ListN.{length, set, drop, get_or, length-set, drop_of_length-le}
use lib.Dec.{lit<}
use lib.Seq.{sets}
use Rattle.ground.specs.Digits.{padded, width_from, width}
use Rattle.ground.specs.Room.{Put}
use Rattle.ground.proofs.Digits.{ten, length-padded, padded-step, width-least, width-enough}
use Rattle.ground.proofs.Cases.{split}
use Rattle.ground.proofs.Room.{sets-snoc, sets-next}

-- ---- copying: i bytes of src are written

pub record Copied (l₀ : List ℕ) (at : ℕ) (src l : List ℕ) (i : ℕ) : Type 0 where
  pub within : i ≤ length src
  pub kept : length l ≡ length l₀
  pub left : sets l (at + i) (drop i src) ≡ sets l₀ at src

module _ (l₀ : List ℕ) (at : ℕ) (src : List ℕ) where
  pub copied_none : Copied l₀ at src l₀ 0
  copied_none = record { within = omega arith; kept = refl; left = rw add-zero }

  pub copied_more : (l : List ℕ) (i : ℕ) → i < length src → Copied l₀ at src l i → Copied l₀ at src (set l (at + i) (get_or src i 0)) (i + 1)
  copied_more l i h r = record { within = omega arith; kept = simp length-set r.kept; left = sets-next l at i src h ∙ r.left }

  pub copied_all : (l : List ℕ) (i : ℕ) → length src ≤ i → Copied l₀ at src l i → Put l₀ at src (at + i) l
  copied_all l i h r = record { behind = omega (arith, r.within); room = ap (sets l (at + i)) (sym (drop_of_length-le src h)) ∙ r.left }

-- ---- digits: the last j of k are still to be written, and m is the number that they write

pub record Shown (l₀ : List ℕ) (at k n : ℕ) (l : List ℕ) (j m : ℕ) : Type 0 where
  pub within : j ≤ k
  pub kept : length l ≡ length l₀
  pub left : sets l at (padded j m) ≡ sets l₀ at (padded k n)

module _ (l₀ : List ℕ) (at k n : ℕ) where
  pub shown-none : Shown l₀ at k n l₀ k n
  shown-none = record { within = omega arith; kept = refl; left = refl }

  pub shown-more : (l : List ℕ) (j m : ℕ) → 0 < j → Shown l₀ at k n l j m → Shown l₀ at k n (set l (at + (j - 1)) (48 + m % 10)) (j - 1) (m / 10)
  shown-more l j m h r =
      record {
        within = omega (arith, r.within);
        kept = simp length-set r.kept;
        left =
            sets-snoc l at (at + (j - 1)) (48 + m % 10) (padded (j - 1) (m / 10)) (ap (λ (i : ℕ). at + i) (length-padded (j - 1) (m / 10)))
            ∙ ap (λ (s : List ℕ). sets l at s) (sym (padded-step j m h))
            ∙ r.left;
      }

  pub shown-all : (l : List ℕ) (j m : ℕ) → j ≤ 0 → Shown l₀ at k n l j m → Put l₀ at (padded k n) (at + k) l
  unfolding padded
  shown-all l j m h r =
      let z : 0 ≡ j = omega arith in
      record { behind = ap (λ (i : ℕ). at + i) (sym (length-padded k n)); room = ap (λ (i : ℕ). sets l at (padded i m)) z ∙ r.left }

-- ---- how many digits a number has: r is the power of ten that it reaches

tens-grow : (i j : ℕ) → i ≤ j → 10 ^ i ≤ 10 ^ j
tens-grow i j h = pow-le-pow_right (lit< tt) h

pub width-of : (n r : ℕ) → 10 ^ r ≤ n → n < 10 * 10 ^ r → r < 20 → r + 1 ≡ width n
unfolding width
width-of n r a b f =
    let top : n < 10 ^ suc r = rw (ten r) (omega arith) in
    let most : width_from 19 n ≤ suc r = width-least 19 n (suc r) (omega arith) top in
    let enough : n < 10 ^ width_from 19 n = width-enough 19 n (omega (arith, tens-grow (suc r) 20 (omega arith))) in
    split (width_from 19 n) r
    (λ h. absurd (omega (arith, tens-grow (width_from 19 n) r h)))
    (λ h. omega arith)
