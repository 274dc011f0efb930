-- What stands behind the point of a value or of a register read, as one answer of `are_all`. Assumes nothing.
use Prim.Native.Nat.{ℕ, ◌+◌, ◌-◌, ◌≤◌, ◌<◌}
use mathlib.Core.Path.{◌≡◌, ◌∙◌}
use mathlib.Core.Bool.{Bool, false}
use mathlib.Core.List.{List}
use native.Mathlib.Omega.{arith}
use lib.ListN.{length, get_or, take, drop, length-drop}
use borrow.Author.Tests.{le-leb, lt-leb}
use Rattle.ground.specs.Lists.{all, span_of}
use Rattle.ground.specs.Digits.{is_digit}
use Rattle.ground.proofs.Tests.{and-false}
use Rattle.ground.proofs.Cases.{split, same_or}
use Rattle.ground.proofs.Lists.{to_end}
use Rattle.ground.proofs.Spans.{span-le}
use Rattle.format.specs.Bytes.{are_all}
use Rattle.format.specs.Numbers.{is_number, value_of, is_read}
use Rattle.format.proofs.Shapes.{value-point-last, value-long, value-fraction}
use Rattle.quick_values.proofs.RegisterReads.{read-point-last, read-fraction}

module _ (s : List ℕ) {w : ℕ} (e : w ≡ span_of is_digit s) (l : (w ≡ length s → ⊥)) (q : get_or s w 0 ≡ 46) where
  reach : w + 1 ≤ length s
  reach = omega (arith, span-le is_digit s)

  module _ (most : ℕ) {r : Bool} (f : r ≡ are_all is_digit 1 most (take (length s - (w + 1)) (drop (w + 1) s))) where
    size : length (take (length s - (w + 1)) (drop (w + 1) s)) ≡ length s - (w + 1)
    size = rw (to_end) (length-drop (w + 1) s)

    none : w + 1 ≡ length s → r ≡ false
    unfolding are_all
    none h = let k : length s - (w + 1) < 1 = omega arith in f ∙ rw (size, lt-leb 1 _ k)

    long : most < length s - (w + 1) → r ≡ false
    unfolding are_all
    long k = f ∙ rw (size, lt-leb _ most k, and-false)

    some : (w + 1 ≡ length s → ⊥) → length s - (w + 1) ≤ most → r ≡ all is_digit (take (length s - (w + 1)) (drop (w + 1) s))
    unfolding are_all
    some h k = let m : 1 ≤ length s - (w + 1) = omega (arith, reach) in f ∙ rw (size, le-leb 1 _ m, le-leb _ most k)

  pub value-decimals : (d : ℕ) → d ≤ 6 → 1 ≤ w → w ≤ 7 → {r : Bool} → r ≡ are_all is_digit 1 d (take (length s - (w + 1)) (drop (w + 1) s)) → r ≡ is_number (value_of d s)
  value-decimals d few a b f =
      same_or (w + 1) (length s)
      (λ h. none d f h ∙ value-point-last d few s e a b l q h)
      (λ h. split (length s - (w + 1)) d (λ k. value-fraction d few s e a b l q h k (some d f h k)) (λ k. long d f k ∙ value-long d few s e a b l q h k))

  pub read-decimals : length s ≤ 15 → 1 ≤ w → {r : Bool} → r ≡ are_all is_digit 1 15 (take (length s - (w + 1)) (drop (w + 1) s)) → r ≡ is_read s
  read-decimals few a f =
      same_or (w + 1) (length s)
      (λ h. none 15 f h ∙ read-point-last s few e a l q h)
      (λ h. read-fraction s few e a l q h (some 15 f h (omega arith)))
