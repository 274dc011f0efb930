-- Eight bytes read as one number, and what the lowest mark of that number says. Assumes nothing.
use Rattle.std.proofs.Common.{◌≡◌, ℕ, zero, suc, ◌+◌, ◌-◌, ◌*◌, ◌/◌, ◌%◌, ◌^◌, ◌<◌, ◌≤◌, Bool, true, false, cond, not, ◌&&◌, ◌||◌, eqb, ltb, leb, List, [], ◌∷◌, length, get_or, sym, refl, ap, ◌∙◌, add-zero, mul-le-mul_right, mod-lt, zero-add, mul-one, add-one, arith, pow_pos, pow-add, shl_exact, shr_lt, w8, w64, Fits, ltb-true, lt-ltb, ne_eqb, eqb-true, leb-true}
use mathlib.Core.Bool.{false≢true}
use lib.Pow.{high, low, mod-pow-add, ones_split}
use lib.Bits.{bit_and, bit_or, bit_xor, and_le_r, and_lt, and_block, xor_block, or_shifted_r, shifted_half, shifted_even, xor_lt}
use lib.Count.{count_trailing_zeros, under, trailing_of_zero, trailing_le}
use borrow.Author.Tests.{eqb-false}
use Rattle.ground.proofs.Tests.{and-true}
use Rattle.ground.specs.Lists.{all, from, span_of, other}
use Rattle.ground.proofs.From.{all_from}
use Rattle.ground.proofs.Bytes.{spelled}
use Rattle.ground.proofs.Spans.{all-span, spanned-all}
use Rattle.eights.specs.Words.{number}

-- the bits of n bytes
abbrev wide : ℕ → ℕ
wide zero = 0
wide (suc n) = wide n + 8

-- n bytes that are each c, as one number
abbrev every : ℕ → ℕ → ℕ
every c zero = 0
every c (suc n) = every c n * 2 ^ 8 + c

-- ---- the lowest set bit

tz_shift : (j k a : ℕ) → count_trailing_zeros (k + j) (a * 2 ^ j) ≡ count_trailing_zeros k a + j
unfolding count_trailing_zeros
tz_shift zero k a = rw (mul-one a, add-zero k, add-zero (count_trailing_zeros k a))
tz_shift (suc j) k a =
    let e : k + suc j ≡ suc (k + j) = omega arith in
    rw (e, shifted_even a j, shifted_half a j) (omega (arith, tz_shift j k a))

tz_odd : (k a : ℕ) → count_trailing_zeros (suc k) (a * 2 + 1) ≡ 0
unfolding count_trailing_zeros
tz_odd k a = let e : (a * 2 + 1) % 2 ≡ 1 = omega arith in rw e

-- no mark in the lowest byte, and one there
mark_on : (k a : ℕ) → count_trailing_zeros (k + 8) (a * 2 ^ 8 + 0) / 8 ≡ suc (count_trailing_zeros k a / 8)
mark_on k a = rw (add-zero (a * 2 ^ 8), tz_shift 8 k a) (omega arith)

mark-here : (k a : ℕ) → count_trailing_zeros (k + 8) (a * 2 ^ 8 + 128) / 8 ≡ 0
mark-here k a =
    let e : a * 2 ^ 8 + 128 ≡ (a * 2 + 1) * 2 ^ 7 = omega arith in
    let d : k + 8 ≡ suc k + 7 = omega arith in
    rw (e, d, tz_shift 7 (suc k) (a * 2 + 1), tz_odd k a)

-- ---- the marks of n bytes

-- the number w of n bytes, each of its bytes flipped by 211, which are the bits that a comma lacks: where one stands all are ones
abbrev flipped : ℕ → ℕ → ℕ
flipped n w = bit_xor w (every 211 n)

-- the top bits that are set in it, and not in the sum
abbrev marked : ℕ → ℕ → ℕ → ℕ
marked n w sum = bit_and (bit_and (flipped n w) (2 ^ wide n - 1 - sum % 2 ^ wide n)) (every 128 n)

ones-less : (o x c : ℕ) → x ≤ o → c ≤ 255 → o * 2 ^ 8 + 255 - (x * 2 ^ 8 + c) ≡ (o - x) * 2 ^ 8 + (255 - c)
ones-less o x c h k = omega arith

-- the lowest byte by itself: b is that byte and w the others, c is the sum's lowest byte and a its others
module _ (n w b a c : ℕ) (h : b < 2 ^ 8) (k : c < 2 ^ 8) where
  abbrev y : ℕ
  y = bit_xor b 211

  y-lt : y < 2 ^ 8
  y-lt = xor_lt 8 b 211 h (omega arith)

  flip : flipped (suc n) (w * 2 ^ 8 + b) ≡ flipped n w * 2 ^ 8 + y
  flip = xor_block 8 w (every 211 n) b 211 h (omega arith)

  rest_of : (a * 2 ^ 8 + c) % 2 ^ (wide n + 8) ≡ a % 2 ^ wide n * 2 ^ 8 + c
  rest_of = rw (mod-pow-add (a * 2 ^ 8 + c) (wide n) 8, high a 8 k, low a 8 k)

  others : 2 ^ (wide n + 8) - 1 - (a * 2 ^ 8 + c) % 2 ^ (wide n + 8) ≡ (2 ^ wide n - 1 - a % 2 ^ wide n) * 2 ^ 8 + (255 - c)
  others =
      let l : a % 2 ^ wide n < 2 ^ wide n = mod-lt a (pow_pos (wide n)) in
      rw (rest_of, ones_split (wide n) 8) (ones-less (2 ^ wide n - 1) (a % 2 ^ wide n) c (omega arith) (omega arith))

  marked-byte : marked (suc n) (w * 2 ^ 8 + b) (a * 2 ^ 8 + c) ≡ marked n w a * 2 ^ 8 + bit_and (bit_and y (255 - c)) 128
  marked-byte =
      rw (flip, others, and_block 8 (flipped n w) (2 ^ wide n - 1 - a % 2 ^ wide n) y (255 - c) y-lt (omega arith))
      (and_block 8 (bit_and (flipped n w) (2 ^ wide n - 1 - a % 2 ^ wide n)) (every 128 n) (bit_and y (255 - c)) 128 (and_lt 8 y (255 - c) y-lt (omega arith)) (omega arith))

-- any byte but a comma, flipped, is no 255, and has no top bit that one more than it has not
abbrev unmarked : ℕ → Bool
unmarked b = eqb b 44 || (leb (bit_xor b 211) 254 && eqb (bit_and (bit_and (bit_xor b 211) (255 - (bit_xor b 211 + 1))) 128) 0)

unmarked-all : all unmarked (from (λ i. i) 0 256) ≡ true
unfolding from
unmarked-all = refl

module _ (b : ℕ) (h : b < 256) (ne : b ≡ 44 → ⊥) where
  plain_byte : (leb (bit_xor b 211) 254 ≡ true) × (eqb (bit_and (bit_and (bit_xor b 211) (255 - (bit_xor b 211 + 1))) 128) 0 ≡ true)
  plain_byte = and-true (leb (bit_xor b 211) 254) _ (rw (zero-add b, ne_eqb b 44 ne) at (all_from unmarked (λ i. i) 0 256 b unmarked-all h))

  flipped_le : bit_xor b 211 ≤ 254
  flipped_le = leb-true _ _ plain_byte.0

  unmarked-byte : bit_and (bit_and (bit_xor b 211) (255 - (bit_xor b 211 + 1))) 128 ≡ 0
  unmarked-byte = eqb-true _ _ plain_byte.1

-- ---- the lowest mark stands in the byte of the first comma

-- the sum that the code makes: one added to each byte
abbrev raised : ℕ → ℕ → ℕ
raised n w = flipped n w + every 1 n

module _ (n w b : ℕ) (h : b < 2 ^ 8) where
  raise : raised (suc n) (w * 2 ^ 8 + b) ≡ raised n w * 2 ^ 8 + (bit_xor b 211 + 1)
  raise = rw (xor_block 8 w (every 211 n) b 211 h (omega arith)) (omega arith)

  passed-byte : (b ≡ 44 → ⊥) → marked (suc n) (w * 2 ^ 8 + b) (raised (suc n) (w * 2 ^ 8 + b)) ≡ marked n w (raised n w) * 2 ^ 8 + 0
  passed-byte ne =
      let l = flipped_le b h ne in
      rw (raise, marked-byte n w b (raised n w) (bit_xor b 211 + 1) h (omega arith), unmarked-byte b h ne)

  comma-byte : b ≡ 44 → marked (suc n) (w * 2 ^ 8 + b) (raised (suc n) (w * 2 ^ 8 + b)) ≡ marked n w (raised n w + 1) * 2 ^ 8 + 128
  comma-byte e =
      let q : bit_xor b 211 ≡ 255 = rw e in
      let r : raised n w * 2 ^ 8 + (bit_xor b 211 + 1) ≡ (raised n w + 1) * 2 ^ 8 + 0 = omega arith in
      rw (raise, r, marked-byte n w b (raised n w + 1) 0 h (omega arith), q)

first-mark : (s : List ℕ) → all (λ b. ltb b 256) s ≡ true
    → count_trailing_zeros (wide (length s)) (marked (length s) (number s) (raised (length s) (number s))) / 8 ≡ span_of (other 44) s
unfolding number span_of count_trailing_zeros
first-mark [] h = refl
first-mark (b ∷ s) h = by (eqb b 44) refl (first-mark s (and-true (ltb b 256) (all (λ c. ltb c 256) s) h).1)
  where
    n : ℕ
    n = length s

    l : b < 2 ^ 8
    l = ltb-true b 256 (and-true (ltb b 256) (all (λ c. ltb c 256) s) h).0

    by : (t : Bool) → eqb b 44 ≡ t → count_trailing_zeros (wide n) (marked n (number s) (raised n (number s))) / 8 ≡ span_of (other 44) s
        → count_trailing_zeros (wide n + 8) (marked (suc n) (number s * 2 ^ 8 + b) (raised (suc n) (number s * 2 ^ 8 + b))) / 8 ≡ cond (not t) (suc (span_of (other 44) s)) 0
    by true e ih = rw (comma-byte n (number s) b l (eqb-true b 44 e)) (mark-here (wide n) (marked n (number s) (raised n (number s) + 1)))
    by false e ih =
        rw (passed-byte n (number s) b l (eqb-false b 44 e)) (mark_on (wide n) (marked n (number s) (raised n (number s))) ∙ ap suc ih)

-- ---- eight bytes read as one number

-- the first bytes, up to the one at n, put beside each other
abbrev joined : List ℕ → ℕ → ℕ
joined t zero = get_or t 0 0
joined t (suc n) = bit_or (joined t n) (get_or t (suc n) 0 * 2 ^ wide (suc n) % 2 ^ 64)

abbrev summed : List ℕ → ℕ → ℕ
summed t zero = get_or t 0 0
summed t (suc n) = get_or t (suc n) 0 * 2 ^ wide (suc n) + summed t n

wide_is : (n : ℕ) → wide n ≡ n * 8
wide_is zero = refl
wide_is (suc n) = omega (arith, wide_is n)

module _ (t : List ℕ) (each : (k : ℕ) → get_or t k 0 < 256) where
  summed-lt : (n : ℕ) → summed t n < 2 ^ wide (suc n)
  summed-lt zero = each 0
  summed-lt (suc n) =
      let p = 2 ^ wide (suc n) in
      let d : get_or t (suc n) 0 * p ≤ 255 * p = mul-le-mul_right p (omega (arith, each (suc n))) in
      rw (pow-add 2 (wide (suc n)) 8) (omega (arith, summed-lt n))

  joined_is : (n : ℕ) → n < 8 → joined t n ≡ summed t n
  joined_is zero h = refl
  joined_is (suc n) h =
      let l : 8 + wide (suc n) ≤ 64 = omega (arith, wide_is (suc n)) in
      rw (shl_exact 8 (wide (suc n)) 64 (each (suc n)) l, joined_is n (omega arith)) (or_shifted_r (get_or t (suc n) 0) (wide (suc n)) (summed t n) (summed-lt n))

summed-number : (t : List ℕ) → summed (from (λ i. get_or t i 0) 0 8) 7 ≡ number (from (λ i. get_or t i 0) 0 8)
unfolding from number
summed-number t = omega arith

word-is : (t : List ℕ) → length t ≡ 8 → ((k : ℕ) → get_or t k 0 < 256) → joined t 7 ≡ number t
word-is t e each = joined_is t each 7 (omega arith) ∙ spelled (λ (s : List ℕ). summed s 7 ≡ number s) 8 t e (summed-number t)

word_bytes : (t : List ℕ) → ((k : ℕ) → get_or t k 0 < 256) → all (λ b. ltb b 256) t ≡ true
word_bytes [] each = refl
word_bytes (b ∷ t) each = rw (lt-ltb b 256 (each 0), word_bytes t (λ k. each (suc k)))

-- a number with k bits that is not 0 has a lowest set bit
tz-some : (k n : ℕ) → n < 2 ^ k → (n ≡ 0 → ⊥) → count_trailing_zeros k n < k
unfolding count_trailing_zeros
tz-some zero n h ne = absurd (ne (omega arith))
tz-some (suc k) n h ne = by (n % 2) refl (λ d. tz-some k (n / 2) (shr_lt k 1 (rw (← add-one k) at h)) d)
  where
    by : (d : ℕ) → n % 2 ≡ d → ((n / 2 ≡ 0 → ⊥) → count_trailing_zeros k (n / 2) < k) → under d (count_trailing_zeros k (n / 2)) < suc k
    by zero e ih = let l = ih (λ z. ne (omega arith)) in omega arith
    by (suc d) e ih = omega arith

-- there is a mark exactly where there is a comma
module _ (t : List ℕ) (m : ℕ) (e : length t ≡ 8) (h : m < 2 ^ 64) (f : count_trailing_zeros 64 m / 8 ≡ span_of (other 44) t) where
  some-mark : eqb m 0 ≡ all (other 44) t
  some-mark = by (eqb m 0) refl (all (other 44) t) refl
    where
      by : (b : Bool) → eqb m 0 ≡ b → (c : Bool) → all (other 44) t ≡ c → b ≡ c
      by true z true a = refl
      by true z false a =
          let g : 8 ≡ span_of (other 44) t = rw (eqb-true m 0 z, trailing_of_zero 64) at f in
          absurd (false≢true (sym a ∙ spanned-all (other 44) t (omega arith)))
      by false z true a =
          let l = tz-some 64 m h (eqb-false m 0 z) in
          let g = all-span (other 44) t a in
          absurd (let y : ⊥ = omega arith in y)
      by false z false a = refl

-- w and sum are what the code made on the way
module _ (t : List ℕ) (w sum : ℕ) (e : length t ≡ 8) (q : w ≡ number t) (h : all (λ b. ltb b 256) t ≡ true) (s : sum ≡ raised 8 w % 2 ^ 64) where
  abbrev marks : ℕ
  marks = bit_and (bit_and (flipped 8 w) (2 ^ 64 - 1 - sum)) (every 128 8)

  pub comma-first : count_trailing_zeros 64 marks / 8 ≡ span_of (other 44) t
  comma-first = rw (s, q) (rw e at (first-mark t h))

  pub comma-some : eqb marks 0 ≡ all (other 44) t
  comma-some = some-mark t marks e (omega (arith, and_le_r (bit_and (flipped 8 w) (2 ^ 64 - 1 - sum)) (every 128 8))) comma-first

-- each byte of a slice fits a byte, as the code is given it
pub byte_fits : (t : List ℕ) (i : ℕ) → ((k : ℕ) → Fits w8 (get_or t k 0)) → Fits w64 (get_or t i 0)
byte_fits t i fit = record { fits = omega (arith, (fit i).fits) }

pub word-joined : (t : List ℕ) → length t ≡ 8 → ((k : ℕ) → Fits w8 (get_or t k 0)) → (joined t 7 ≡ number t) × (all (λ b. ltb b 256) t ≡ true)
word-joined t e fit = (word-is t e (λ k. (fit k).fits), word_bytes t (λ k. (fit k).fits))

pub lowest-le : (m : ℕ) → count_trailing_zeros 64 m / 8 ≤ 8
lowest-le m = omega (arith, trailing_le 64 m)

pub lowest-fits : (m : ℕ) → Fits w64 (count_trailing_zeros 64 m / 8)
lowest-fits m = record { fits = omega (arith, lowest-le m) }
