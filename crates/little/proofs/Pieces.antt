-- A piece of memory as far as there are bytes; what a write from place `at` on leaves as it was, and what is found where it was written. Assumes nothing.
use Prim.Native.Nat.{ℕ, ◌+◌, ◌-◌, ◌≤◌, ◌<◌, min}
use mathlib.Core.Path.{◌≡◌, sym, ap, ◌∙◌}
use mathlib.Core.List.{List, ◌++◌, append_assoc}
use native.Mathlib.Omega.{arith}
use lib.ListN.{length, take, drop, length-drop, drop_of_length-le}
use lib.Seq.{sets, sets-eq, take_all, take-nil, take-take, drop_at, drop-append-le, take-append-le, length-take-le, drop-drop}
use Rattle.ground.proofs.Cases.{split}
use Rattle.ground.proofs.Spans.{drop-take}
use Rattle.moving.proofs.Stores.{take-sets, drop-sets}
use Rattle.entries.specs.Little.{piece}

-- a piece is no longer for asking more than there is
clip : (k a : ℕ) (s : List ℕ) → take (min k (length s - a)) (drop a s) ≡ take k (drop a s)
clip k a s =
    split k (length s - a)
    (λ h. let q : min k (length s - a) ≡ k = omega arith in rw q)
    (λ h.
    take_all (min k (length s - a)) (drop a s) (omega (arith, length-drop a s)) ∙ sym (take_all k (drop a s) (omega (arith, length-drop a s))))

-- the part that the code takes: from a, which is no place behind the end, x bytes
pub piece-clipped : (s : List ℕ) (at k : ℕ) {a x : ℕ} → a ≡ min at (length s) → x ≡ min k (length s - a) → take (a + x - a) (drop a s) ≡ piece s at k
piece-clipped s at k {a} {x} e f =
    let q : a + x - a ≡ min k (length s - a) = omega arith in
    split at (length s)
    (λ h.
    let p : a ≡ at = omega arith in
    ap (λ (n : ℕ). take n (drop a s)) q ∙ clip k a s ∙ ap (λ (n : ℕ). take k (drop n s)) p)
    (λ h. rw (drop_of_length-le s {i = a} (omega arith), drop_of_length-le s {i = at} (omega arith), take-nil (a + x - a), take-nil k))

-- a piece behind what was written
pub piece-behind : (vs l : List ℕ) (a k at : ℕ) → at + length vs ≤ a → piece (sets l at vs) a k ≡ piece l a k
piece-behind vs l a k at h = ap (take k) (drop-sets a l at vs h)

-- a piece that ends at place b or before it is one of what stands before b
piece-first : (l : List ℕ) (a k b : ℕ) → a + k ≤ b → piece (take b l) a k ≡ piece l a k
piece-first l a k b h = ap (take k) (drop-take a b l (omega arith)) ∙ take-take k (b - a) (drop a l) (omega arith)

-- a piece before what was written
pub piece-before : (vs l : List ℕ) (a k at : ℕ) → a + k ≤ at → piece (sets l at vs) a k ≡ piece l a k
piece-before vs l a k at h =
    sym (piece-first (sets l at vs) a k at h)
    ∙ ap (λ (z : List ℕ). piece z a k) (take-sets at l at vs (omega arith))
    ∙ piece-first l a k at h

-- a piece that has no place in common with what was written: where the write begins before the piece ends, it ends before the piece begins
pub piece-apart : (vs l : List ℕ) (a k at : ℕ) → (at < a + k → at + length vs ≤ a) → piece (sets l at vs) a k ≡ piece l a k
piece-apart vs l a k at f = split (a + k) at (λ h. piece-before vs l a k at h) (λ h. piece-behind vs l a k at (f h))

-- a piece of what was written
pub piece_of : (vs l : List ℕ) (i k at : ℕ) → at + length vs ≤ length l → i + k ≤ length vs → piece (sets l at vs) (at + i) k ≡ piece vs i k
piece_of vs l i k at h g =
    let d = drop (at + length vs) l in
    let q : drop (at + i) (sets l at vs) ≡ drop i vs ++ d =
    ap (drop (at + i)) (sets-eq vs l at h ∙ append_assoc (take at l) vs d)
    ∙ sym (drop-drop i at (take at l ++ (vs ++ d)))
    ∙ ap (drop i) (drop_at (take at l) (vs ++ d) at (length-take-le at l (omega arith)))
    ∙ drop-append-le i vs d (omega arith)
    in
    ap (take k) q ∙ take-append-le k (drop i vs) d (omega (arith, length-drop i vs))
