-- What packing keeps: each block's bytes and the blocks' order; they lie apart again, one behind the other; their bytes are the sum of the lengths.
-- Assumes nothing.
use Prim.Native.Nat.{ℕ, zero, suc, ◌+◌, ◌≤◌, ◌<◌}
use mathlib.Core.Path.{◌≡◌, refl, sym, ap, ap₂, ◌∙◌}
use mathlib.Core.List.{List, [], ◌∷◌, ◌++◌, append_assoc}
use mathlib.Core.Bool.{◌||◌}
use native.Mathlib.Omega.{arith}
use lib.ListN.{length, take, drop, get_or, length-append, length-drop}
use lib.Seq.{drop-append_seam, drop-append-le, take-append-le, take_at}
use lib.Dec.{leb, ltb}
use borrow.Author.Tests.{leb-true, ltb-true, le-leb, lt-ltb, lt-leb, le-ltb}
use Rattle.ground.proofs.Tests.{and-true, and-false}
use Rattle.ground.proofs.Cases.{split}
use Rattle.moving.proofs.Moves.{length-stretch}
use Rattle.ground.specs.Lists.{sum}
use Rattle.store.specs.Moves.{among, covered, keep, kept}
use Rattle.ranges.specs.Laid.{Laid}
use Rattle.ranges.proofs.Meaning.{laid-rest}
use Rattle.packing.specs.Packing.{pack_of}
use Rattle.packing.proofs.Keeps.{keep-none, keep-split, keep_same, keep-either, kept-gap, kept_block, kept_more, covered-in, covered_out, length-placed, placed_at, placed-free}

-- a stretch of the first of two lists
pub stretch-first : (p n : ℕ) (xs ys : List ℕ) → p + n ≤ length xs → take n (drop p (xs ++ ys)) ≡ take n (drop p xs)
stretch-first p n xs ys h =
    ap (take n) (drop-append-le p xs ys (omega arith)) ∙ take-append-le n (drop p xs) ys (omega (arith, length-drop p xs))

module _ (room os ns : List ℕ) (laid : Laid os ns (length room)) where
  -- the blocks up to the end of one, and the room from there on
  block-kept : (i : ℕ) → i < length os → 0 < get_or ns i 0
      → kept os ns room (get_or os i 0 + get_or ns i 0) ≡ kept os ns room (get_or os i 0) ++ take (get_or ns i 0) (drop (get_or os i 0) room)
  block-kept i a h =
      kept_block (covered os ns) room (get_or os i 0) (get_or ns i 0) (laid.inside i a h) (λ x g l. covered-in os ns i x a (omega (arith, laid.as_many)) g l)

  block-end : (i : ℕ) → i < length os → 0 < get_or ns i 0
      → length (kept os ns room (get_or os i 0 + get_or ns i 0)) ≡ length (kept os ns room (get_or os i 0)) + get_or ns i 0
  block-end i a h =
      ap length (block-kept i a h)
      ∙ length-append (kept os ns room (get_or os i 0)) (take (get_or ns i 0) (drop (get_or os i 0) room))
      ∙ ap (λ (k : ℕ). length (kept os ns room (get_or os i 0)) + k) (length-stretch room (get_or os i 0) (get_or ns i 0) (laid.inside i a h))

  new-place : (i : ℕ) → i < length os → 0 < get_or ns i 0 → get_or (pack_of room os ns).places i 0 ≡ length (kept os ns room (get_or os i 0))
  unfolding pack_of
  new-place i a h = placed_at (λ (o : ℕ). length (kept os ns room o)) os ns i a (omega (arith, laid.as_many)) h

  -- the packed bytes around a block
  around : (i : ℕ) → i < length os → 0 < get_or ns i 0
      → keep (covered os ns) 0 room
      ≡ kept os ns room (get_or os i 0)
      ++ (take (get_or ns i 0) (drop (get_or os i 0) room) ++ keep (covered os ns) (get_or os i 0 + get_or ns i 0) (drop (get_or os i 0 + get_or ns i 0) room))
  around i a h =
      let n = get_or ns i 0 in
      let o = get_or os i 0 in
      let m = keep (covered os ns) (o + n) (drop (o + n) room) in
      keep-split (covered os ns) room (o + n) (laid.inside i a h)
      ∙ ap (λ (z : List ℕ). z ++ m) (block-kept i a h)
      ∙ append_assoc (kept os ns room o) (take n (drop o room)) m

  -- a block's bytes, in the packed bytes
  pub block_in_lem : (i : ℕ) → i < length os → 0 < get_or ns i 0
      → take (get_or ns i 0) (drop (get_or (pack_of room os ns).places i 0) (keep (covered os ns) 0 room)) ≡ take (get_or ns i 0) (drop (get_or os i 0) room)
  block_in_lem i a h =
      let n = get_or ns i 0 in
      let o = get_or os i 0 in
      let m = keep (covered os ns) (o + n) (drop (o + n) room) in
      ap₂ (λ (k : ℕ) (z : List ℕ). take n (drop k z)) (new-place i a h) (around i a h)
      ∙ ap (take n) (drop-append_seam (kept os ns room o) (take n (drop o room) ++ m))
      ∙ take_at (take n (drop o room)) m n (length-stretch room o n (laid.inside i a h))

  pub ends-in : (i : ℕ) → i < length os → 0 < get_or ns i 0 → get_or (pack_of room os ns).places i 0 + get_or ns i 0 ≤ (pack_of room os ns).bytes
  unfolding pack_of
  ends-in i a h =
      let n = get_or ns i 0 in
      let o = get_or os i 0 in
      let m = keep (covered os ns) (o + n) (drop (o + n) room) in
      omega (
        arith,
        new-place i a h,
        ap length (around i a h),
        length-append (kept os ns room o) (take n (drop o room) ++ m),
        length-append (take n (drop o room)) m,
        length-stretch room o n (laid.inside i a h),
      )

  -- a block's bytes are the same before and after
  pub same_bytes : (i : ℕ) → i < length os → 0 < get_or ns i 0
      → take (get_or ns i 0) (drop (get_or (pack_of room os ns).places i 0) (pack_of room os ns).room) ≡ take (get_or ns i 0) (drop (get_or os i 0) room)
  unfolding pack_of
  same_bytes i a h =
      let k = keep (covered os ns) 0 room in
      stretch-first (get_or (pack_of room os ns).places i 0) (get_or ns i 0) k (drop (length k) room) (ends-in i a h) ∙ block_in_lem i a h

  -- a block that lay before another lies before it
  pub rises : (i j : ℕ) → i < length os → j < length os → 0 < get_or ns i 0 → 0 < get_or ns j 0 → (i ≡ j → ⊥) → get_or os i 0 ≤ get_or os j 0
      → get_or (pack_of room os ns).places i 0 + get_or ns i 0 ≤ get_or (pack_of room os ns).places j 0
  rises i j a b h k d g =
      omega (
        arith,
        new-place i a h,
        new-place j b k,
        block-end i a h,
        kept_more (covered os ns) room (get_or os i 0 + get_or ns i 0) (get_or os j 0) (laid.apart i j a b h k g d) (omega (arith, laid.inside j b k)),
      )

  pub laid-again : Laid (pack_of room os ns).places ns (pack_of room os ns).bytes
  unfolding pack_of
  laid-again =
      let m : length (pack_of room os ns).places ≡ length os = length-placed (λ (o : ℕ). length (kept os ns room o)) os ns in
      record {
        as_many = m ∙ laid.as_many;
        inside = λ i a h. ends-in i (omega arith) h;
        apart =
            λ i j a b h k g d.
            split (get_or os i 0) (get_or os j 0)
            (λ t. rises i j (omega arith) (omega arith) h k d t)
            (λ t. absurd (omega (arith, rises j i (omega arith) (omega arith) k h (λ x. d (sym x)) (omega arith))));
      }

-- ---- how many bytes

-- a range that lies in the room
keep-among : (o n : ℕ) (room : List ℕ) → (0 < n → o + n ≤ length room) → length (keep (among o n) 0 room) ≡ n
unfolding keep
keep-among o zero room h =
    ap length (keep-none (among o 0) 0 room (λ x a b. split o x (λ g. rw (le-leb o x g, le-ltb x (o + 0) (omega arith))) (λ g. rw (lt-leb o x g))))
keep-among o (suc n) room h =
    let g : o + suc n ≤ length room = h (omega arith) in
    let l = length-drop (o + suc n) room in
    let first : keep (among o (suc n)) 0 (take o room) ≡ keep (among o (suc n)) 0 (take 0 room) =
    kept-gap (among o (suc n)) room 0 o (omega arith) (omega arith) (λ x a b. rw (lt-leb o x b)) in
    let mid = kept_block (among o (suc n)) room o (suc n) g (λ x a b. rw (le-leb o x a, lt-ltb x (o + suc n) b)) in
    let last : keep (among o (suc n)) (o + suc n) (drop (o + suc n) room) ≡ [] =
    keep-none (among o (suc n)) (o + suc n) (drop (o + suc n) room) (λ x a b. rw (le-ltb x (o + suc n) a) (and-false (leb o x))) in
    omega (
      arith,
      ap length (keep-split (among o (suc n)) room (o + suc n) g),
      length-append (keep (among o (suc n)) 0 (take (o + suc n) room)) (keep (among o (suc n)) (o + suc n) (drop (o + suc n) room)),
      ap length mid,
      length-append (keep (among o (suc n)) 0 (take o room)) (take (suc n) (drop o room)),
      ap length first,
      ap length last,
      length-stretch room o (suc n) g,
    )

-- blocks that lie apart have as many bytes as their lengths say
pub bytes-sum : (room os ns : List ℕ) → Laid os ns (length room) → length (keep (covered os ns) 0 room) ≡ sum ns
unfolding covered
bytes-sum room [] [] l = ap length (keep-none (covered [] []) 0 room (λ x a b. refl))
bytes-sum room [] (n ∷ ns) l = absurd (let e = l.as_many in omega arith)
bytes-sum room (o ∷ os) [] l = absurd (let e = l.as_many in omega arith)
bytes-sum room (o ∷ os) (n ∷ ns) l =
    ap length (keep_same (covered (o ∷ os) (n ∷ ns)) (λ (x : ℕ). among o n x || covered os ns x) 0 room (λ x h. refl))
    ∙ keep-either (among o n) (covered os ns) 0 room
    (λ x t.
    let z = and-true (leb o x) (ltb x (o + n)) t in
    let f = leb-true o x z.0 in
    let g = ltb-true x (o + n) z.1 in
    covered_out os ns x (λ i a b h k.
    split o (get_or os i 0)
    (λ y. omega (arith, l.apart 0 (suc i) (omega arith) (omega arith) (omega arith) (omega arith) y (λ e. omega arith)))
    (λ y. omega (arith, l.apart (suc i) 0 (omega arith) (omega arith) (omega arith) (omega arith) (omega arith) (λ e. omega arith)))))
    ∙ ap₂ ◌+◌ (keep-among o n room (λ h. l.inside 0 (omega arith) h)) (bytes-sum room os ns (laid-rest o n (length room) os ns l))

-- what is no block keeps its place
pub free-place : (room os ns : List ℕ) (i : ℕ) → i < length os → i < length ns → get_or ns i 0 ≡ 0 → get_or (pack_of room os ns).places i 0 ≡ get_or os i 0
unfolding pack_of
free-place room os ns i a b e = placed-free (λ (o : ℕ). length (kept os ns room o)) os ns i a b e
