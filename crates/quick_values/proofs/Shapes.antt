-- A digit, a point and three digits: they are a value, its number, and they hold no comma. Assumes nothing.
use Rattle.std.proofs.Common.{Some}
use Prim.Native.Nat.{ℕ, ◌+◌, ◌-◌, ◌*◌, ◌≤◌, min}
use mathlib.Core.Path.{◌≡◌, ap}
use mathlib.Core.Bool.{true}
use mathlib.Core.List.{List, [], ◌∷◌}
use native.Mathlib.Omega.{arith}
use lib.ListN.{length, get_or}
use lib.Dec.{eqb}
use borrow.Author.Tests.{le-leb, ne_eqb, eqb-true}
use Rattle.ground.specs.Lists.{all, span_of, other, from}
use Rattle.ground.specs.Digits.{is_digit}
use Rattle.ground.proofs.Tests.{and-true}
use Rattle.format.specs.Bytes.{are_all}
use Rattle.format.specs.Numbers.{is_number, decimals, number_of, fraction_of, value_of}
use Rattle.quick_values.specs.Shapes.{is_thousandths}
use Rattle.ground.proofs.Bytes.{spelled}
use Rattle.ground.proofs.Digits.{digit-range, digit_not}

-- the four digits and the point
record Five (s : List ℕ) : Type 0 where
  size : length s ≡ 5
  dot : get_or s 1 0 ≡ 46
  first : is_digit (get_or s 0 0) ≡ true
  second : is_digit (get_or s 2 0) ≡ true
  third : is_digit (get_or s 3 0) ≡ true
  fourth : is_digit (get_or s 4 0) ≡ true

five-is : (s : List ℕ) → is_thousandths s ≡ true → Five s
unfolding is_thousandths
five-is s t =
    let t5 = and-true _ (is_digit (get_or s 4 0)) t in
    let t4 = and-true _ (is_digit (get_or s 3 0)) t5.0 in
    let t3 = and-true _ (is_digit (get_or s 2 0)) t4.0 in
    let t2 = and-true _ (is_digit (get_or s 0 0)) t3.0 in
    let t1 = and-true (eqb (length s) 5) (eqb (get_or s 1 0) 46) t2.0 in
    record {
      size = eqb-true _ _ t1.0;
      dot = eqb-true _ _ t1.1;
      first = t2.1;
      second = t3.1;
      third = t4.1;
      fourth = t5.1;
    }

-- their length, and the ranges of the digits
pub thousandths-bytes : (s : List ℕ) → is_thousandths s ≡ true
    → (length s ≡ 5) × (48 ≤ get_or s 0 0) × (get_or s 0 0 ≤ 57) × (48 ≤ get_or s 2 0) × (get_or s 2 0 ≤ 57) × (48 ≤ get_or s 3 0) × (get_or s 3 0 ≤ 57) × (48 ≤ get_or s 4 0)
    × (get_or s 4 0 ≤ 57)
thousandths-bytes s t =
    let f = five-is s t in
    omega (arith, f.size, digit-range _ f.first, digit-range _ f.second, digit-range _ f.third, digit-range _ f.fourth)

-- the number of such a value: 53328 is that of four zeros, each a 48
five-number : (a b c d : ℕ) → is_digit a ≡ true → is_digit b ≡ true → is_digit c ≡ true → is_digit d ≡ true
    → value_of decimals (a ∷ 46 ∷ b ∷ c ∷ d ∷ []) ≡ Some ((a * 1000 + b * 100 + c * 10 + d - 53328) * 1000)
unfolding value_of number_of fraction_of are_all span_of
five-number a b c d ha hb hc hd =
    rw (digit_not 46 a (omega arith) ha, ha, hb, hc, hd) (ap Some (omega (arith, digit-range a ha, digit-range b hb, digit-range c hc, digit-range d hd)))

pub thousandths-number : (s : List ℕ) → is_thousandths s ≡ true
    → value_of decimals s ≡ Some ((get_or s 0 0 * 1000 + get_or s 2 0 * 100 + get_or s 3 0 * 10 + get_or s 4 0 - 53328) * 1000)
unfolding from
thousandths-number s t =
    let f = five-is s t in
    spelled (λ l. value_of decimals l ≡ Some ((get_or s 0 0 * 1000 + get_or s 2 0 * 100 + get_or s 3 0 * 10 + get_or s 4 0 - 53328) * 1000)) 5 s f.size
    (rw f.dot (five-number _ _ _ _ f.first f.second f.third f.fourth))

-- they are a value where three decimals are allowed
five-value : (m a b c d : ℕ) → 3 ≤ m → is_digit a ≡ true → is_digit b ≡ true → is_digit c ≡ true → is_digit d ≡ true
    → is_number (value_of m (a ∷ 46 ∷ b ∷ c ∷ d ∷ [])) ≡ true
unfolding value_of number_of fraction_of are_all span_of
five-value m a b c d h ha hb hc hd = rw (digit_not 46 a (omega arith) ha, ha, hb, hc, hd, le-leb 3 (min m 6) (omega arith))

pub thousandths-value : (m : ℕ) (s : List ℕ) → 3 ≤ m → is_thousandths s ≡ true → is_number (value_of m s) ≡ true
unfolding from
thousandths-value m s h t =
    let f = five-is s t in
    spelled (λ l. is_number (value_of m l) ≡ true) 5 s f.size (rw f.dot (five-value m _ _ _ _ h f.first f.second f.third f.fourth))

pub thousandths-plain : (s : List ℕ) → is_thousandths s ≡ true → all (other 44) s ≡ true
unfolding from
thousandths-plain s t =
    let f = five-is s t in
    spelled (λ l. all (other 44) l ≡ true) 5 s f.size
    (rw (digit_not 44 _ (omega arith) f.first, ne_eqb (get_or s 1 0) 44 (λ h. let z = f.dot in let y : ⊥ = omega arith in y), digit_not 44 _ (omega arith) f.second, digit_not 44 _ (omega arith) f.third, digit_not 44 _ (omega arith) f.fourth))
