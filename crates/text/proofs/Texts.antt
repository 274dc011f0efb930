-- A part of a lent text, and a number without leading zeros, as the code meets them: what is written, and the room that it has. Assumes nothing.
use Prim.Native.Nat.{ℕ, ◌+◌, ◌-◌, ◌≤◌}
use mathlib.Core.Path.{◌≡◌, refl, sym, ap, ◌∙◌}
use mathlib.Core.Bool.{true}
use mathlib.Core.List.{List, [], append_assoc}
use native.Mathlib.Omega.{arith}
use lib.ListN.{length, take, drop}
use borrow.Author.Tests.{ne_eqb, leb-true}
use lib.Seq.{sets-eq}
use borrow.Rule.Slice.PartMut.{put_mid, Post-is, mid_len}
use Rattle.ground.specs.Digits.{padded, width, dec}
use Rattle.ground.specs.Room.{Put}
use Rattle.ground.proofs.Cases.{same_or}
use Rattle.ground.proofs.Digits.{length-dec}
use Rattle.ground.proofs.Room.{put_as}
use Rattle.text.specs.Inside.{inside}

-- ---- bytes copied over a part of the room

pub part_put : (l src : List ℕ) (at : ℕ) → at + length src ≤ length l → {now : List ℕ} → now ≡ src → Put l at src (at + length src) (put_mid at (at + length src - at) l now)
part_put l src at h e =
    record {
      behind = refl;
      room = rw (e, Post-is at (at + length src) l (omega arith), sets-eq src l at h, append_assoc);
    }

-- ---- a part of a lent text

module _ (text : List ℕ) (s n : ℕ) where
  pub part_none : n ≡ 0 → take n (drop s text) ≡ []
  part_none e = rw e

  pub inside-some : (n ≡ 0 → ⊥) → inside text s n ≡ true → s + n ≤ length text
  unfolding inside
  inside-some ne h = leb-true (s + n) (length text) (rw (ne_eqb n 0 ne) at h)

  -- the part that the code lends
  pub part-lent : take (s + n - s) (drop s text) ≡ take n (drop s text)
  part-lent = let e : s + n - s ≡ n = omega arith in rw e

  pub part_length : inside text s n ≡ true → length (take n (drop s text)) ≡ n
  part_length h =
      same_or n 0
      (λ e. rw e)
      (λ ne.
      let e : s + n - s ≡ n = omega arith in
      ap length (sym part-lent) ∙ mid_len s (s + n) text (inside-some ne h) ∙ e)

-- ---- a number without leading zeros

pub put-as-dec : (n w : ℕ) {l m : List ℕ} {at i : ℕ} → w ≡ width n → Put l at (padded w n) i m → Put l at (dec n) i m
unfolding dec
put-as-dec n w e p = put_as p (ap (λ (k : ℕ). padded k n) e)

pub dec-room : (n w at k : ℕ) → w ≡ width n → at + length (dec n) ≤ k → at + w ≤ k
dec-room n w at k e h = omega (arith, length-dec n)
