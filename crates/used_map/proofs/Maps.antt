-- What the code computes, by shifts and masks, is what the definitions say. Assumes nothing.
use Prim.Native.Nat.{ℕ, ◌+◌, ◌-◌, ◌*◌, ◌/◌, ◌%◌, ◌^◌, ◌≤◌, ◌<◌}
use mathlib.Core.Path.{◌≡◌, sym, ap, ◌∙◌}
use mathlib.Core.Bool.{true}
use native.Mathlib.Nat.{lt_of_lt_of_le}
use native.Mathlib.Omega.{arith}
use lib.Dec.{eqb}
use lib.Pow.{pow_mono, pow-lt}
use lib.Bits.{bit_and, bit_or, and_mask, or_add_and}
use Rattle.ground.proofs.Cases.{by}
use Rattle.store.specs.Used.{used, taken, freed, none_past}
use Rattle.used_map.proofs.Bits.{and-not, and-bit}
use Rattle.used_map.proofs.Slots.{used-past, used-bit, free-bit, freed-free, below-past}

-- a number of 64 bits has no bit past them
pub past : (m s : ℕ) → m < 2 ^ 64 → 64 ≤ s → m < 2 ^ s
past m s h g = lt_of_lt_of_le h (pow_mono g)

-- the bit under the mask 1
pub tested : (m s : ℕ) → eqb (bit_and (m / 2 ^ s) 1) 1 ≡ used m s
unfolding used
tested m s = ap (λ (k : ℕ). eqb k 1) (and_mask (m / 2 ^ s) 1)

sum-used : (x y p m : ℕ) → x + y ≡ m + p → y ≡ 1 * p → x ≡ m
sum-used x y p m e f = omega arith

sum-free : (x y p m : ℕ) → x + y ≡ m + p → y ≡ 0 * p → x ≡ m + p
sum-free x y p m e f = omega arith

less-used : (x y p m : ℕ) → x + y ≡ m → y ≡ 1 * p → x ≡ m - p
less-used x y p m e f = omega arith

less-free : (x y p m : ℕ) → x + y ≡ m → y ≡ 0 * p → x ≡ m
less-free x y p m e f = omega arith

common : (m s d : ℕ) → m / 2 ^ s % 2 ≡ d → bit_and m (2 ^ s) ≡ d * 2 ^ s
common m s d e = and-bit m s ∙ ap (λ (k : ℕ). k * 2 ^ s) e

-- the map or the bit
pub or-taken : (m s : ℕ) {b : ℕ} → b ≡ 2 ^ s → bit_or m b ≡ taken m s
unfolding taken
or-taken m s e =
    let sum = or_add_and m (2 ^ s) in
    ap (bit_or m) e
    ∙ by (used m s)
    (λ u. rw u (sum-used (bit_or m (2 ^ s)) (bit_and m (2 ^ s)) (2 ^ s) m sum (common m s 1 (used-bit m s u))))
    (λ u. rw u (sum-free (bit_or m (2 ^ s)) (bit_and m (2 ^ s)) (2 ^ s) m sum (common m s 0 (free-bit m s u))))

-- the map and all but the bit
pub and-freed : (m s : ℕ) {b : ℕ} → m < 2 ^ 64 → s < 64 → b ≡ 2 ^ s → bit_and m (2 ^ 64 - 1 - b) ≡ freed m s
unfolding freed
and-freed m s h g e =
    let whole = and-not 64 m (2 ^ s) h (pow-lt g) in
    ap (λ (k : ℕ). bit_and m (2 ^ 64 - 1 - k)) e
    ∙ by (used m s)
    (λ u. rw u (less-used (bit_and m (2 ^ 64 - 1 - 2 ^ s)) (bit_and m (2 ^ s)) (2 ^ s) m whole (common m s 1 (used-bit m s u))))
    (λ u. rw u (less-free (bit_and m (2 ^ 64 - 1 - 2 ^ s)) (bit_and m (2 ^ s)) (2 ^ s) m whole (common m s 0 (free-bit m s u))))

pub freed-past : (m s : ℕ) → m < 2 ^ s → m ≡ freed m s
freed-past m s h = sym (freed-free m s (used-past m s h))

pub none-when-past : (m n : ℕ) → m < 2 ^ n → true ≡ none_past m n
none-when-past m n h = sym (below-past m n h)
