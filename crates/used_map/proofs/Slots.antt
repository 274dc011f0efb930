-- Slots of a used map: one taken or freed, the slots in use and their number, the lowest free slot. Assumes nothing.
use Prim.Native.Nat.{ℕ, zero, suc, ◌+◌, ◌-◌, ◌*◌, ◌/◌, ◌%◌, ◌^◌, ◌≤◌, ◌<◌, min}
use mathlib.Core.Path.{◌≡◌, refl, sym, ap, ap₂, ◌∙◌, subst}
use mathlib.Core.Bool.{Bool, true, false, cond, false≢true}
use mathlib.Core.List.{List, ◌∷◌}
use native.Mathlib.Nat.{pow-suc, add_comm, div-eq_of_lt, le_refl, lt_of_not-le, lt_of_lt_of_le, div-add-mod', mod-lt}
use native.Mathlib.Numerals.{add-one}
use native.Mathlib.Omega.{arith}
use lib.ListN.{length}
use lib.Dec.{eqb}
use lib.Arith.{lt-one}
use lib.Pow.{pow_pos, pow_mono, pow-lt, shr_lt}
use lib.Count.{ones, ones_step, count_trailing_zeros, under}
use borrow.Author.Tests.{eq-eqb, ne_eqb, eqb-true, eqb-false}
use Rattle.ground.proofs.Cases.{split, same_or, by}
use Rattle.store.specs.Used.{used, taken, freed, used_from, held, free_from, none_past}
use Rattle.used_map.proofs.Bits.{over, half-bit, bit-none, bit-zero, bit_added, bit-other}

-- ---- one slot

pub used-bit : (m s : ℕ) → used m s ≡ true → m / 2 ^ s % 2 ≡ 1
unfolding used
used-bit m s t = eqb-true (m / 2 ^ s % 2) 1 t

pub free-bit : (m s : ℕ) → used m s ≡ false → m / 2 ^ s % 2 ≡ 0
unfolding used
free-bit m s t = let h = eqb-false (m / 2 ^ s % 2) 1 t in omega arith

bit-used : (m s : ℕ) → m / 2 ^ s % 2 ≡ 1 → used m s ≡ true
unfolding used
bit-used m s e = eq-eqb (m / 2 ^ s % 2) 1 e

bit-free : (m s : ℕ) → m / 2 ^ s % 2 ≡ 0 → used m s ≡ false
unfolding used
bit-free m s e = ne_eqb (m / 2 ^ s % 2) 1 (λ f. let z : ⊥ = omega arith in z)

same_bits : (m n s : ℕ) → m / 2 ^ s % 2 ≡ n / 2 ^ s % 2 → used m s ≡ used n s
unfolding used
same_bits m n s e = ap (λ (k : ℕ). eqb k 1) e

-- past a map's bits every slot is free
pub used-past : (m s : ℕ) → m < 2 ^ s → used m s ≡ false
used-past m s h = bit-free m s (ap (λ (k : ℕ). k % 2) (bit-none m s h))

-- slot s + 1 is slot s of the half
used-half : (m s : ℕ) → used m (suc s) ≡ used (m / 2) s
unfolding used
used-half m s = ap (λ (k : ℕ). eqb (k % 2) 1) (half-bit m s)

-- n is the map m with the free slot s in use: read one way a slot is taken, read the other way one is freed
pub record Added (m n s : ℕ) : Type 0 where
  pub was : used m s ≡ false
  pub is : used n s ≡ true
  pub others : (t : ℕ) → (t ≡ s → ⊥) → used n t ≡ used m t

added : (m s : ℕ) → used m s ≡ false → Added m (m + 2 ^ s) s
added m s e =
    record {
      was = e;
      is = bit-used (m + 2 ^ s) s (bit_added m s (free-bit m s e));
      others = λ t d. same_bits (m + 2 ^ s) m t (bit-other s t m (free-bit m s e) d);
    }

-- a free slot is taken
pub taking : (m s : ℕ) → used m s ≡ false → Added m (taken m s) s
unfolding taken
taking m s e = subst (λ (k : ℕ). Added m k s) (rw e) (added m s e)

-- a used bit is at most the map, and without it the slot is free
bit-within : (m s : ℕ) → used m s ≡ true → 2 ^ s ≤ m
bit-within m s e = let h : 2 ^ s < suc m = lt_of_not-le (λ h. false≢true (sym (used-past m s h) ∙ e)) in omega arith

bit-gone : (m s : ℕ) → used m s ≡ true → used (m - 2 ^ s) s ≡ false
bit-gone m s e =
    let h = bit-within m s e in
    let back : m - 2 ^ s + 2 ^ s ≡ m = omega arith in
    let o : m / 2 ^ s ≡ (m - 2 ^ s) / 2 ^ s + 1 = ap (λ (k : ℕ). k / 2 ^ s) (sym back) ∙ over (m - 2 ^ s) (2 ^ s) (pow_pos s) in
    let b = used-bit m s e in
    bit-free (m - 2 ^ s) s (omega arith)

-- a used slot is freed
pub freeing : (m s : ℕ) → used m s ≡ true → Added (freed m s) m s
unfolding freed
freeing m s e =
    let h = bit-within m s e in
    let back : m - 2 ^ s + 2 ^ s ≡ m = omega arith in
    subst (λ (k : ℕ). Added k m s) (rw e) (subst (λ (k : ℕ). Added (m - 2 ^ s) k s) back (added (m - 2 ^ s) s (bit-gone m s e)))

-- a slot that is free already
pub freed-free : (m s : ℕ) → used m s ≡ false → freed m s ≡ m
unfolding freed
freed-free m s e = rw e

-- a map with a slot freed uses no other slot
pub freed-fewer : (m s t : ℕ) → used (freed m s) t ≡ true → used m t ≡ true
freed-fewer m s t u =
    by (used m s)
    (λ e.
    same_or t s
    (λ q. absurd (false≢true (sym (freeing m s e).was ∙ ap (used (freed m s)) (sym q) ∙ u)))
    (λ d. (freeing m s e).others t d ∙ u))
    (λ e. subst (λ (k : ℕ). used k t ≡ true) (freed-free m s e) u)

-- ---- the slots in use, and their number

-- maps that agree on the slots from i on
used-alike : (m n k i : ℕ) → ((t : ℕ) → i ≤ t → used n t ≡ used m t) → used_from n i k ≡ used_from m i k
unfolding used_from
used-alike m n zero i h = refl
used-alike m n (suc k) i h = rw (h i (le_refl i), used-alike m n k (suc i) (λ t g. h t (omega arith)))

tally-same : (b : Bool) (i j : ℕ) (x y : List ℕ) → length x ≡ length y → length (cond b (i ∷ x) x) ≡ length (cond b (j ∷ y) y)
tally-same true i j x y e = omega arith
tally-same false i j x y e = e

used-shift : (m k i : ℕ) → length (used_from m (suc i) k) ≡ length (used_from (m / 2) i k)
unfolding used_from
used-shift m zero i = refl
used-shift m (suc k) i =
    rw (used-half m i) (tally-same (used (m / 2) i) (suc i) i (used_from m (suc (suc i)) k) (used_from (m / 2) (suc i) k) (used-shift m k (suc i)))

first_bit : (m : ℕ) (b : Bool) → used m 0 ≡ b → m % 2 ≡ cond b 1 0
first_bit m true e = ap (λ (k : ℕ). k % 2) (sym (bit-zero m)) ∙ used-bit m 0 e
first_bit m false e = ap (λ (k : ℕ). k % 2) (sym (bit-zero m)) ∙ free-bit m 0 e

tally : (b : Bool) (i : ℕ) (l : List ℕ) → cond b 1 0 + length l ≡ length (cond b (i ∷ l) l)
tally true i l = omega arith
tally false i l = omega arith

tally-more : (b : Bool) (i : ℕ) (x y : List ℕ) → length x ≡ length y + 1 → length (cond b (i ∷ x) x) ≡ length (cond b (i ∷ y) y) + 1
tally-more true i x y e = omega arith
tally-more false i x y e = e

tally-most : (b : Bool) (i k : ℕ) (l : List ℕ) → length l ≤ k → length (cond b (i ∷ l) l) ≤ suc k
tally-most true i k l h = omega arith
tally-most false i k l h = omega arith

-- the count of ones is the number of slots in use
ones-used : (k m : ℕ) → m < 2 ^ k → ones m ≡ length (used_from m 0 k)
unfolding ones used_from
ones-used zero m h = ap ones (lt-one h)
ones-used (suc k) m h =
    let p = pow-suc 2 k in
    let ih = ones-used k (m / 2) (omega arith) ∙ sym (used-shift m k 0) in
    ones_step m ∙ ap₂ (λ (x y : ℕ). x + y) (first_bit m (used m 0) refl) ih ∙ tally (used m 0) 0 (used_from m 1 k)

pub ones-held : (m : ℕ) → m < 2 ^ 64 → ones m ≡ held m
unfolding held
ones-held m h = ones-used 64 m h

used-most : (m k i : ℕ) → length (used_from m i k) ≤ k
unfolding used_from
used-most m zero i = le_refl 0
used-most m (suc k) i = tally-most (used m i) i k (used_from m (suc i) k) (used-most m k (suc i))

pub held-most : (m : ℕ) → held m ≤ 64
unfolding held
held-most m = used-most m 64 0

-- one slot more in use: one more is counted
more-used : (m n s k i : ℕ) → Added m n s → i ≤ s → s < i + k → length (used_from n i k) ≡ length (used_from m i k) + 1
unfolding used_from
more-used m n s zero i a h g = absurd (let z : ⊥ = omega arith in z)
more-used m n s (suc k) i a h g =
    same_or i s
    (λ q.
    let x : used n i ≡ true = ap (used n) q ∙ a.is in
    let y : used m i ≡ false = ap (used m) q ∙ a.was in
    let r = used-alike m n k (suc i) (λ t l. a.others t (λ z. let w : ⊥ = omega arith in w)) in
    rw (x, y, r) (sym (add-one (length (used_from m (suc i) k)))))
    (λ d.
    rw (a.others i d)
    (tally-more (used m i) i (used_from n (suc i) k) (used_from m (suc i) k) (more-used m n s k (suc i) a (omega arith) (omega arith))))

pub held_more : (m n s : ℕ) → Added m n s → s < 64 → held n ≡ held m + 1
unfolding held
held_more m n s a h = more-used m n s 64 0 a (omega arith) (omega arith)

-- ---- the lowest free slot

-- t is the lowest free slot among the k slots from slot i on, i + k where none is free
pub record Lowest (m i k t : ℕ) : Type 0 where
  pub from : i ≤ t
  pub most : t ≤ i + k
  pub below : (j : ℕ) → i ≤ j → j < t → used m j ≡ true
  pub free : t < i + k → used m t ≡ false

pub lowest-first : (m k i : ℕ) → Lowest m i k (free_from m i k)
unfolding free_from
lowest-first m zero i =
    record { from = le_refl i; most = omega arith; below = λ j x y. absurd (let w : ⊥ = omega arith in w); free = λ g. absurd (let w : ⊥ = omega arith in w) }
lowest-first m (suc k) i =
    let r = lowest-first m k (suc i) in
    by (used m i)
    (λ u.
    rw u
    (record {
      from = omega (arith, r.from);
      most = omega (arith, r.most);
      below = λ j x y. same_or j i (λ q. ap (used m) q ∙ u) (λ d. r.below j (omega arith) y);
      free = λ g. r.free (omega arith);
    }))
    (λ u.
    rw u (record { from = le_refl i; most = omega arith; below = λ j x y. absurd (let w : ⊥ = omega arith in w); free = λ g. u }))

up : (m k : ℕ) (b : Bool) (t : ℕ) → used m 0 ≡ b → Lowest (m / 2) 0 k t → Lowest m 0 (suc k) (under (1 - cond b 1 0) t)
up m k true t u r =
    record { from = omega arith; most = omega (arith, r.most); below = λ j x y. below j y; free = λ g. used-half m t ∙ r.free (omega arith) }
  where
    below : (j : ℕ) → j < suc t → used m j ≡ true
    below zero g = u
    below (suc j) g = used-half m j ∙ r.below j (omega arith) (omega arith)
up m k false t u r = record { from = omega arith; most = omega arith; below = λ j x y. absurd (let w : ⊥ = omega arith in w); free = λ g. u }

-- it is how many zeros the inverse ends with
trailing : (k m : ℕ) → m < 2 ^ k → Lowest m 0 k (count_trailing_zeros k (2 ^ k - 1 - m))
unfolding count_trailing_zeros
trailing zero m h =
    record { from = omega arith; most = omega arith; below = λ j x y. absurd (let w : ⊥ = omega arith in w); free = λ g. absurd (let w : ⊥ = omega arith in w) }
trailing (suc k) m h =
    let p = pow-suc 2 k in
    let f = first_bit m (used m 0) refl in
    let low : (2 ^ suc k - 1 - m) % 2 ≡ 1 - m % 2 = omega arith in
    let high : (2 ^ suc k - 1 - m) / 2 ≡ 2 ^ k - 1 - m / 2 = omega arith in
    subst (Lowest m 0 (suc k)) (sym (ap₂ (λ (x y : ℕ). under x (count_trailing_zeros k y)) (low ∙ ap (λ (x : ℕ). 1 - x) f) high))
    (up m k (used m 0) _ refl (trailing k (m / 2) (omega arith)))

-- so the first n slots have that one, if it is among them
pub lowest : (m n : ℕ) → m < 2 ^ 64 → free_from m 0 n ≡ min (count_trailing_zeros 64 (2 ^ 64 - 1 - m)) n
lowest m n h =
    let t = count_trailing_zeros 64 (2 ^ 64 - 1 - m) in
    let f = lowest-first m n 0 in
    let r = trailing 64 m h in
    let free : used m t ≡ false = split 64 t (λ g. used-past m t (lt_of_lt_of_le h (pow_mono g))) (λ g. r.free g) in
    split (free_from m 0 n) t
    (λ a.
    same_or (free_from m 0 n) t (λ q. omega (arith, f.most))
    (λ d.
    same_or (free_from m 0 n) n (λ q. omega arith)
    (λ e. absurd (false≢true (sym (f.free (omega (arith, f.most))) ∙ r.below (free_from m 0 n) (omega arith) (omega arith))))))
    (λ b. absurd (false≢true (sym free ∙ f.below t (omega arith) b)))

-- ---- no bit past the slots

quotient-none : (m n : ℕ) → m / 2 ^ n ≡ 0 → m < 2 ^ n
quotient-none m n e =
    let d : 0 * 2 ^ n + m % 2 ^ n ≡ m = ap (λ (k : ℕ). k * 2 ^ n + m % 2 ^ n) (sym e) ∙ div-add-mod' m (2 ^ n) in
    let l = mod-lt m (pow_pos n) in
    omega arith

pub past-below : (m n : ℕ) → none_past m n ≡ true → m < 2 ^ n
unfolding none_past
past-below m n e = quotient-none m n (eqb-true (m / 2 ^ n) 0 e)

pub below-past : (m n : ℕ) → m < 2 ^ n → none_past m n ≡ true
unfolding none_past
below-past m n h = eq-eqb (m / 2 ^ n) 0 (div-eq_of_lt h)

pub none-past : (m n s : ℕ) → none_past m n ≡ true → n ≤ s → used m s ≡ false
none-past m n s e h = used-past m s (lt_of_lt_of_le (past-below m n e) (pow_mono h))

-- a map whose slots from n on are free has n bits at most
all-free : (m n k : ℕ) → m < 2 ^ k → ((s : ℕ) → n ≤ s → used m s ≡ false) → m < 2 ^ n
all-free m n zero h f = lt_of_lt_of_le h (pow_mono {i = 0} {j = n} (omega arith))
all-free m n (suc k) h f =
    split (suc k) n
    (λ g. lt_of_lt_of_le h (pow_mono g))
    (λ g.
    let l : m / 2 ^ k < 2 = shr_lt 1 k (subst (λ (x : ℕ). m < 2 ^ x) (sym (add-one k) ∙ add_comm k 1) h) in
    let b = free-bit m k (f k (omega arith)) in
    all-free m n k (quotient-none m k (omega arith)) f)

pub taken-below : (m s n : ℕ) → m < 2 ^ n → s < n → taken m s < 2 ^ n
unfolding taken
taken-below m s n h g =
    by (used m s)
    (λ u. rw u h)
    (λ u.
    rw u
    (all-free (m + 2 ^ s) n (suc n) (let p = pow-suc 2 n in let q = pow-lt g in omega arith)
    (λ t l. (added m s u).others t (λ e. let w : ⊥ = omega arith in w) ∙ used-past m t (lt_of_lt_of_le h (pow_mono l)))))

pub freed-below : (m s n : ℕ) → m < 2 ^ n → freed m s < 2 ^ n
unfolding freed
freed-below m s n h = by (used m s) (λ u. rw u (omega arith)) (λ u. rw u h)
