-- The memory after the offsets of the used slots were written: each used slot has its new offset, and nothing else is another. Assumes nothing.
use Prim.Native.Nat.{ℕ, zero, suc, ◌+◌, ◌^◌, ◌≤◌, ◌<◌}
use mathlib.Core.Path.{◌≡◌, refl, sym, ap, ◌∙◌}
use mathlib.Core.List.{List, [], ◌∷◌}
use mathlib.Core.Bool.{true, false, false≢true}
use native.Mathlib.Omega.{arith}
use lib.ListN.{length, get_or}
use lib.Seq.{sets}
use Rattle.ground.proofs.Cases.{by, same_or}
use Rattle.entries.specs.Little.{piece, number, number_at, in_bytes}
use Rattle.entries.specs.Entries.{key_at, entry_at}
use Rattle.store.specs.Used.{used}
use Rattle.store.specs.Ranges.{slot_place, slot_of}
use Rattle.store.specs.Moves.{offset_put, offsets_put}
use Rattle.store.specs.declared.Header.{Header}
use Rattle.little.proofs.Pieces.{piece-apart}
use Rattle.little.proofs.Numbers.{length-in, number-back}
use Rattle.slots.proofs.Fields.{length-offset}
use Rattle.slots.proofs.Back.{entry-same}

module _ (h : Header) (map : ℕ) where
  -- ---- one slot

  -- a piece that has no place in common with the four bytes of slot i's offset
  offset-apart : (i v : ℕ) (m : List ℕ) (a k : ℕ) → (used map i ≡ true → slot_place h i + 18 < a + k → slot_place h i + 22 ≤ a)
      → piece (offset_put h map i v m) a k ≡ piece m a k
  unfolding offset_put
  offset-apart i v m a k f =
      by (used map i)
      (λ t. rw t (piece-apart (in_bytes 4 v) m a k (slot_place h i + 18) (λ g. let z = f t g in omega (arith, length-in 4 v))))
      (λ t. rw t)

  offset-is : (i v : ℕ) (m : List ℕ) → used map i ≡ true → offset_put h map i v m ≡ sets m (slot_place h i + 18) (in_bytes 4 v)
  unfolding offset_put
  offset-is i v m t = rw t

  -- ---- the slots from slot i on

  pub length-offsets : (i : ℕ) (vs m : List ℕ) → length (offsets_put h map i vs m) ≡ length m
  unfolding offsets_put
  length-offsets i [] m = refl
  length-offsets i (v ∷ vs) m = length-offsets (i + 1) vs (offset_put h map i v m) ∙ length-offset h map i v m

  -- a piece that has no place in common with the four bytes of any of their offsets
  pub offsets-apart : (i : ℕ) (vs m : List ℕ) (a k : ℕ)
      → ((j : ℕ) → i ≤ j → j < i + length vs → used map j ≡ true → slot_place h j + 18 < a + k → slot_place h j + 22 ≤ a)
      → piece (offsets_put h map i vs m) a k ≡ piece m a k
  unfolding offsets_put
  offsets-apart i [] m a k f = refl
  offsets-apart i (v ∷ vs) m a k f =
      offsets-apart (i + 1) vs (offset_put h map i v m) a k (λ j x y. f j (omega arith) (omega arith))
      ∙ offset-apart i v m a k (f i (omega arith) (omega arith))

  -- the offset that a used slot got
  offsets-at : (i : ℕ) (vs m : List ℕ) (j : ℕ) → used map (i + j) ≡ true → j < length vs → get_or vs j 0 < 2 ^ 32 → slot_place h (i + j) + 22 ≤ length m
      → number_at (offsets_put h map i vs m) (slot_place h (i + j) + 18) 4 ≡ get_or vs j 0
  unfolding offsets_put
  offsets-at i [] m j t l s g = absurd (let z : ⊥ = omega arith in z)
  offsets-at i (v ∷ vs) m zero t l s g =
      let e : i + 0 ≡ i = omega arith in
      let u : used map i ≡ true = rw e at t in
      rw e
      (ap number (offsets-apart (i + 1) vs (offset_put h map i v m) (slot_place h i + 18) 4 (λ j x y w z. absurd (let n : ⊥ = omega arith in n)))
      ∙ ap (λ (z : List ℕ). number_at z (slot_place h i + 18) 4) (offset-is i v m u)
      ∙ number-back m (slot_place h i + 18) 4 v (omega arith) s)
  offsets-at i (v ∷ vs) m (suc j) t l s g =
      let e : i + suc j ≡ i + 1 + j = omega arith in
      rw e (offsets-at (i + 1) vs (offset_put h map i v m) j (rw e at t) (omega arith) s (omega (arith, length-offset h map i v m)))

  -- ---- slot j, when the slots from the first on got their offsets

  module _ (vs m : List ℕ) (j : ℕ) where
    -- what stands before its offset, and what stands behind it
    before : (i k : ℕ) → i + k ≤ 18 → piece (offsets_put h map 0 vs m) (slot_place h j + i) k ≡ piece m (slot_place h j + i) k
    before i k g = offsets-apart 0 vs m (slot_place h j + i) k (λ s x y t z. omega arith)

    behind : (i k : ℕ) → 22 ≤ i → i + k ≤ 26 → piece (offsets_put h map 0 vs m) (slot_place h j + i) k ≡ piece m (slot_place h j + i) k
    behind i k f g = offsets-apart 0 vs m (slot_place h j + i) k (λ s x y t z. omega arith)

    pub offsets-key : key_at (offsets_put h map 0 vs m) (slot_place h j) ≡ key_at m (slot_place h j)
    unfolding key_at
    offsets-key =
        let q : slot_place h j + 0 ≡ slot_place h j = omega arith in
        let n : piece (offsets_put h map 0 vs m) (slot_place h j) 10 ≡ piece m (slot_place h j) 10 = rw q at (before 0 10 (omega arith)) in
        rw (n, before 10 2 (omega arith), before 12 4 (omega arith))

    pub offsets-used : used map j ≡ true → j < length vs → get_or vs j 0 < 2 ^ 32 → slot_place h j + 22 ≤ length m
        → slot_of (offsets_put h map 0 vs m) h j
        ≡ record { minutes = (slot_of m h j).minutes; unit = (slot_of m h j).unit; start = get_or vs j 0; size = (slot_of m h j).size }
    unfolding entry_at
    offsets-used t l s g =
        let q : 0 + j ≡ j = omega arith in
        let n : number_at (offsets_put h map 0 vs m) (slot_place h j + 18) 4 ≡ get_or vs j 0 = rw q at (offsets-at 0 vs m j (rw q t) l s (rw q g)) in
        rw (before 16 1 (omega arith), before 17 1 (omega arith), n, behind 22 4 (omega arith) (omega arith))

    pub offsets-free : used map j ≡ false → slot_of (offsets_put h map 0 vs m) h j ≡ slot_of m h j
    offsets-free t =
        entry-same (offsets_put h map 0 vs m) m (slot_place h j) (slot_place h j)
        (λ i k g.
        offsets-apart 0 vs m (slot_place h j + i) k
        (λ s x y u z. same_or s j (λ q. absurd (false≢true (sym t ∙ ap (used map) (sym q) ∙ u))) (λ d. omega arith)))
