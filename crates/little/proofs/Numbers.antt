-- Numbers in bytes: read from the last byte to the first, written from the first to the last, and read back. One law for every width. Assumes nothing.
use Prim.Native.Nat.{ℕ, zero, suc, ◌+◌, ◌-◌, ◌*◌, ◌/◌, ◌%◌, ◌^◌, ◌≤◌, ◌<◌, min}
use mathlib.Core.Path.{◌≡◌, refl, sym, ap, ◌∙◌, subst}
use mathlib.Core.List.{List, [], ◌∷◌, ◌++◌, reverse}
use native.Mathlib.Nat.{pow-suc, pow-le-pow_right, sub-zero, lt_of_lt_of_le}
use native.Mathlib.Omega.{arith}
use lib.Dec.{lit<}
use lib.Arith.{lt-one}
use lib.ListN.{length, take, drop, get_or, set, drop_of_length-le, length-take, length-set}
use lib.Seq.{sets, set_out, take_all, drop-length, length-take-le, set-append_left}
use borrow.Rule.Slice.PartMut.{mid_of, post_of, put_mid, put_same}
use mir.Val.{Fits}
use mir.Syntax.{w8, w64}
use Rattle.std.proofs.lemmas.List.{get_or-reverse, length-reverse, set-append_right}
use Rattle.std.proofs.lemmas.Grind.{get_or_default_zero}
use Rattle.ground.specs.Room.{Put}
use Rattle.ground.proofs.Cases.{split}
use Rattle.ground.proofs.Lists.{rest}
use Rattle.entries.specs.Little.{piece, number, number_at, in_bytes}
use Rattle.little.proofs.Pieces.{piece_of}

-- ---- read

pow-some : (k : ℕ) → 0 < 256 ^ k
pow-some k = lt_of_lt_of_le (lit< tt) (pow-le-pow_right {n = 256} (lit< tt) {i = 0} {j = k} (omega arith))

-- a byte more, and 64 bits are enough for eight
byte_more : {v b k j : ℕ} → v < 256 ^ k → b < 256 → j ≡ suc k → v * 256 + b < 256 ^ j
byte_more {v} {b} {k} {j} h g e = let p = pow-suc 256 k in subst (λ (x : ℕ). v * 256 + b < 256 ^ x) (sym e) (omega arith)

below_all : {v k : ℕ} → v < 256 ^ k → k ≤ 8 → v < 2 ^ 64
below_all h g = lt_of_lt_of_le h (pow-le-pow_right (lit< tt) g)

-- v is the number of the bytes from i on
pub record Gathered (s : List ℕ) (i v : ℕ) : Type 0 where
  pub within : i ≤ length s
  pub short : length s ≤ 8
  pub is : v ≡ number (drop i s)
  pub below : v < 256 ^ (length s - i)

pub gathered_none : (s : List ℕ) → length s ≤ 8 → Gathered s (length s - 0) 0
unfolding number
gathered_none s h =
    rw sub-zero
    record {
      within = omega arith;
      short = h;
      is = rw (drop-length s);
      below = let z : length s - length s ≡ 0 = omega arith in subst (λ (k : ℕ). 0 < 256 ^ k) (sym z) (lit< tt);
    }

module _ (s : List ℕ) (i v : ℕ) where
  -- one byte more, before the others
  pub gathered-more : 0 < i → get_or s (i - 1) 0 < 256 → Gathered s i v → Gathered s (i - 1) (v * 256 + get_or s (i - 1) 0)
  unfolding number
  gathered-more h b g =
      let l : i - 1 < length s = omega (arith, g.within) in
      let q : i - 1 + 1 ≡ i = omega arith in
      let r : drop (i - 1) s ≡ get_or s (i - 1) 0 ∷ drop i s = rest s (i - 1) l ∙ ap (λ (k : ℕ). get_or s (i - 1) 0 ∷ drop k s) q in
      record {
        within = omega arith;
        short = g.short;
        is = rw r (omega (arith, g.is));
        below = byte_more g.below b (omega (arith, g.within));
      }

  pub gathered-times : 0 < i → Gathered s i v → Fits w64 (v * 256)
  gathered-times h g =
      let b = byte_more {b = 0} {j = length s - (i - 1)} g.below (lit< tt) (omega (arith, g.within)) in
      record { fits = below_all {k = length s - (i - 1)} (omega arith) (omega (arith, g.short)) }

-- as the loop meets it: k bytes from the last on were read, b is the next
module _ (s : List ℕ) (k v b : ℕ) (h : k < length (reverse s)) (e : b ≡ get_or (reverse s) k b) (f : (i : ℕ) → Fits w8 (get_or s i 0))
    (g : Gathered s (length s - k) v) where
  next-byte : b ≡ get_or s (length s - k - 1) 0
  next-byte =
      let n = length-reverse s in
      let i : length s - 1 - k ≡ length s - k - 1 = omega arith in
      e ∙ get_or-reverse s k b (omega arith) ∙ ap (λ (j : ℕ). get_or s j b) i ∙ get_or_default_zero s (length s - k - 1) b (omega arith)

  pub gathered_next : {j : ℕ} → j ≡ k + 1 → Gathered s (length s - j) (v * 256 + b)
  gathered_next {j} q =
      let n = length-reverse s in
      let z : length s - k - 1 ≡ length s - j = omega arith in
      let m = gathered-more s (length s - k) v (omega arith) (f (length s - k - 1)).fits g in
      subst (λ (i : ℕ). Gathered s i (v * 256 + b)) z (rw (← next-byte) at m)

  pub next-times : Fits w64 (v * 256)
  next-times = let n = length-reverse s in gathered-times s (length s - k) v (omega arith) g

  pub next-fits : Fits w64 (v * 256 + b)
  next-fits = let m = gathered_next {j = k + 1} refl in record { fits = below_all m.below (omega (arith, m.short)) }

pub gathered-all : (s : List ℕ) (k v : ℕ) → k ≡ length (reverse s) → Gathered s (length s - k) v → (v ≡ number s) × (v < 256 ^ length s)
gathered-all s k v h g =
    let z : length s - k ≡ 0 = omega (arith, length-reverse s) in
    let f = rw z at g in
    (f.is, rw sub-zero at f.below)

-- a piece has at most the bytes that are asked for
pub piece-short : (m s : List ℕ) (a k : ℕ) → s ≡ piece m a k → length s ≤ k
piece-short m s a k e = omega (arith, ap length e, length-take k (drop a m))

pub number-there : (m s : List ℕ) (a k : ℕ) {r : ℕ} → s ≡ piece m a k → (r ≡ number s) × (r < 256 ^ length s) → (r ≡ number_at m a k) × (r < 256 ^ k)
number-there m s a k e (n, b) = (n ∙ ap number e, lt_of_lt_of_le b (pow-le-pow_right (lit< tt) (piece-short m s a k e)))

-- the number in k bytes is below 256 ^ k
pub number-below : (k a : ℕ) (m : List ℕ) → ((i : ℕ) → get_or m i 0 < 256) → number_at m a k < 256 ^ k
unfolding number
number-below zero a m f = lit< tt
number-below (suc k) a m f =
    split (length m) a
    (λ h. rw (drop_of_length-le m h) (pow-some (suc k)))
    (λ h.
    let p = pow-suc 256 k in
    let b = f a in
    let ih = number-below k (a + 1) m f in
    rw (rest m a h) (omega arith))

-- ---- written

-- n in k bytes from place `at` of l₀ on: what is left of it goes into l from at + i on
pub record Putting (l₀ : List ℕ) (at k n : ℕ) (l : List ℕ) (i v : ℕ) : Type 0 where
  pub kept : length l ≡ length l₀
  pub left : sets l (at + i) (in_bytes (k - i) v) ≡ sets l₀ at (in_bytes k n)

pub putting-none : (l : List ℕ) (at k n : ℕ) → Putting l at k n l 0 n
putting-none l at k n = record { kept = refl; left = rw sub-zero (ap (λ (i : ℕ). sets l i (in_bytes k n)) (omega arith)) }

pub putting-more : (l₀ : List ℕ) (at k n : ℕ) (l : List ℕ) (i v : ℕ) → i < k → Putting l₀ at k n l i v
    → Putting l₀ at k n (set l (at + i) (v % 256)) (i + 1) (v / 256)
unfolding in_bytes
putting-more l₀ at k n l i v h p =
    let q : k - i ≡ suc (k - (i + 1)) = omega arith in
    let z : at + (i + 1) ≡ suc (at + i) = omega arith in
    record {
      kept = length-set l (at + i) (v % 256) ∙ p.kept;
      left = rw z (rw q at p.left);
    }

-- the bytes written are a part of l₀, w of them from place `at` on
module _ (l₀ : List ℕ) (at k n w : ℕ) where
  pub part-none : Putting l₀ at k n (put_mid at w l₀ (mid_of at w l₀)) 0 n
  part-none = rw (put_same at w l₀) (putting-none l₀ at k n)

  pub part-more : (ys : List ℕ) (i v : ℕ) → at ≤ length l₀ → i < length ys → i < k → Putting l₀ at k n (put_mid at w l₀ ys) i v
      → Putting l₀ at k n (put_mid at w l₀ (set ys i (v % 256))) (i + 1) (v / 256)
  part-more ys i v g h f p =
      let z : at + i - at ≡ i = omega arith in
      let e : set (put_mid at w l₀ ys) (at + i) (v % 256) ≡ put_mid at w l₀ (set ys i (v % 256)) =
      set-append_right (take at l₀) (ys ++ post_of at w l₀) at (at + i) (v % 256) (length-take-le at l₀ g) (omega arith)
      ∙ ap (λ (m : List ℕ). take at l₀ ++ m) (rw z (set-append_left ys (post_of at w l₀) i (v % 256) h))
      in
      rw e at (putting-more l₀ at k n (put_mid at w l₀ ys) i v f p)

-- stores past the end change nothing
sets-out : (vs l : List ℕ) (i : ℕ) → length l ≤ i → sets l i vs ≡ l
sets-out [] l i h = refl
sets-out (x ∷ vs) l i h = rw (set_out l i x h) (sets-out vs l (suc i) (omega arith))

pub putting-past : (l : List ℕ) (at k n : ℕ) → length l ≤ at → l ≡ sets l at (in_bytes k n)
putting-past l at k n h = sym (sets-out (in_bytes k n) l at h)

pub putting-all : (l₀ : List ℕ) (at k n : ℕ) (l : List ℕ) (i v e : ℕ) → e ≡ min k (length l₀ - at) → e ≤ i → at < length l₀ → Putting l₀ at k n l i v
    → l ≡ sets l₀ at (in_bytes k n)
unfolding in_bytes
putting-all l₀ at k n l i v e q h g p =
    split k i
    (λ d. let z : k - i ≡ 0 = omega arith in rw z at p.left)
    (λ d. sym (sets-out (in_bytes (k - i) v) l (at + i) (omega (arith, p.kept))) ∙ p.left)

-- ---- read back

pub length-in : (k n : ℕ) → length (in_bytes k n) ≡ k
unfolding in_bytes
length-in zero n = refl
length-in (suc k) n = ap suc (length-in k (n / 256))

pub number_in : (k n : ℕ) → n < 256 ^ k → number (in_bytes k n) ≡ n
unfolding in_bytes number
number_in zero n h = sym (lt-one h)
number_in (suc k) n h = let p = pow-suc 256 k in let r = number_in k (n / 256) (omega arith) in omega arith

pub number-back : (l : List ℕ) (at k n : ℕ) → at + k ≤ length l → n < 256 ^ k → number_at (sets l at (in_bytes k n)) at k ≡ n
number-back l at k n h g =
    let e = length-in k n in
    let z : at + 0 ≡ at = omega arith in
    let p : number_at (sets l at (in_bytes k n)) (at + 0) k ≡ number (take k (in_bytes k n)) =
    ap number (piece_of (in_bytes k n) l 0 k at (omega arith) (omega arith))
    in
    ap (λ (a : ℕ). number_at (sets l at (in_bytes k n)) a k) (sym z) ∙ p ∙ ap number (take_all k (in_bytes k n) (omega arith)) ∙ number_in k n g

-- a number put at a place, as a write up to another
pub put_in : {l m : List ℕ} {at j : ℕ} (k n : ℕ) → j ≡ at + k → m ≡ sets l at (in_bytes k n) → Put l at (in_bytes k n) j m
put_in {at = at} k n h e = record { behind = h ∙ ap (λ (x : ℕ). at + x) (sym (length-in k n)); room = e }

-- four bytes that are there, each as it was read
pub four_bytes : (m : List ℕ) (a : ℕ) → a + 4 ≤ length m → {w x y z : ℕ} → w ≡ get_or m a 0 → x ≡ get_or m (a + 1) 0 → y ≡ get_or m (a + 2) 0 → z ≡ get_or m (a + 3) 0
    → w + 256 * x + 65536 * y + 16777216 * z ≡ number_at m a 4
unfolding number
four_bytes m a h e f g i =
    let p : a + 1 + 1 ≡ a + 2 = omega arith in
    let q : a + 2 + 1 ≡ a + 3 = omega arith in
    rw (e, f, g, i, rest m a (omega arith), rest m (a + 1) (omega arith), p, rest m (a + 2) (omega arith), q, rest m (a + 3) (omega arith)) (omega arith)
