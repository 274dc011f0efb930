-- Whether a field is a register read, by its first digits, the byte behind them, and what stands behind that.
-- Assumes nothing.
use Prim.Native.Nat.{ℕ, ◌+◌, ◌-◌, ◌≤◌, ◌<◌}
use mathlib.Core.Path.{◌≡◌, refl, sym}
use mathlib.Core.Bool.{Bool, true, false}
use mathlib.Core.List.{List}
use native.Mathlib.Omega.{arith}
use native.Mathlib.Numerals.{lt_of_le_of_ne}
use lib.ListN.{length, get_or, take, drop, length-drop}
use lib.Seq.{take_all, length-take-le}
use borrow.Author.Tests.{le-leb, lt-leb, eqb-true, not-false}
use Rattle.ground.specs.Lists.{all, span_of, other}
use Rattle.ground.specs.Digits.{is_digit}
use Rattle.ground.proofs.Tests.{and-false}
use Rattle.ground.proofs.Cases.{split, same_or}
use Rattle.ground.proofs.Lists.{to_end}
use Rattle.ground.proofs.Spans.{span-le}
use Rattle.ground.proofs.Prefix.{prefix-all, prefix-end, prefix-most, prefix-past, prefix-wider}
use Rattle.format.specs.Numbers.{point, before, are_digits, is_read}
use Rattle.format.proofs.Numbers.{read_whole, read-split, read-bad}
use Rattle.ground.proofs.Digits.{digit_not}

module _ (s : List ℕ) (few : length s ≤ 15) {w : ℕ} (e : w ≡ span_of is_digit s) where
  reach : w ≤ length s
  reach = rw e (span-le is_digit s)

  digits-first : w ≤ point s
  digits-first = rw e (prefix-wider is_digit (other 46) (λ b. digit_not 46 b (omega arith)) s)

  no_read : are_digits (before s) ≡ false → false ≡ is_read s
  no_read h =
      same_or (point s) (length s)
      (λ l. read_whole s few refl l (sym (rw (take_all (point s) s (omega arith)) at h)))
      (λ l. read-bad s few refl l (sym h) refl)

  -- more than digits stands before the point
  mixed : w < point s → false ≡ is_read s
  unfolding are_digits
  mixed h = no_read (rw (prefix-past is_digit s (point s) (omega arith) (span-le (other 46) s), and-false))

  pub read_none : w < 1 → false ≡ is_read s
  unfolding are_digits
  read_none h =
      split 1 (point s) (λ g. mixed (omega arith))
      (λ g. let z : point s ≡ 0 = omega arith in no_read (rw z))

  pub read-apart : (w ≡ length s → ⊥) → (get_or s w 0 ≡ 46 → ⊥) → false ≡ is_read s
  read-apart l q =
      let k : w < length s = lt_of_le_of_ne reach l in
      split (w + 1) (point s) (λ g. mixed (omega arith))
      (λ g. let z : point s ≡ w = omega (arith, digits-first) in
      absurd (q (eqb-true _ _ (not-false _ (rw z at (prefix-end (other 46) s (omega arith)))))))

  module _ (some : 1 ≤ w) where
    digits-before : true ≡ are_digits (take w s)
    unfolding are_digits
    digits-before = rw (length-take-le w s reach, le-leb 1 w some, e, prefix-all is_digit s)

    pub read_all : w ≡ length s → true ≡ is_read s
    read_all l =
        let p : w ≡ point s = omega (arith, digits-first, span-le (other 46) s) in
        read_whole s few p l (rw (take_all w s (omega arith)) at digits-before)

    module _ (l : w ≡ length s → ⊥) (q : get_or s w 0 ≡ 46) where
      inside : w < length s
      inside = lt_of_le_of_ne reach l

      point-here : w ≡ point s
      point-here = omega (arith, digits-first, prefix-most (other 46) s w inside (rw q))

      split-here : {r : Bool} → r ≡ are_digits (take (length s - (w + 1)) (drop (w + 1) s)) → r ≡ is_read s
      split-here f = read-split s few point-here l digits-before refl f

      pub read-point-last : w + 1 ≡ length s → false ≡ is_read s
      unfolding are_digits
      read-point-last h = let k : length s - (w + 1) < 1 = omega arith in split-here (rw (to_end, length-drop, lt-leb 1 _ k))

      pub read-fraction : {r : Bool} → (w + 1 ≡ length s → ⊥) → r ≡ all is_digit (take (length s - (w + 1)) (drop (w + 1) s)) → r ≡ is_read s
      unfolding are_digits
      read-fraction h f =
          let k : w + 1 < length s = lt_of_le_of_ne {n = w + 1} {m = length s} (omega (arith, inside)) h in
          let m : 1 ≤ length s - (w + 1) = omega arith in
          split-here (rw (to_end, length-drop, le-leb 1 _ m, f, to_end))
