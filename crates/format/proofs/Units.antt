-- The table of units: its numbers, names and decimals, each rule by one test over the whole table. Assumes nothing.
use Rattle.std.proofs.Common.{Option, Some, None}
use Prim.Native.Nat.{ℕ, zero, suc, ◌+◌, ◌-◌, ◌≤◌, ◌<◌}
use mathlib.Core.Path.{◌≡◌, refl, sym, ap, ◌∙◌}
use mathlib.Core.Bool.{Bool, true, false, cond, ◌&&◌}
use mathlib.Core.List.{List, [], ◌∷◌, map}
use native.Mathlib.Omega.{arith}
use lib.ListN.{length, get_or, length-map}
use lib.Dec.{leb, eqb}
use borrow.Author.Tests.{le-leb, lt-leb, lt-ltb, ltb-true, leb-true, eqb-true}
use Rattle.ground.specs.Lists.{all, same}
use Rattle.ground.proofs.Tests.{and-true, and-false, or-true, or-false}
use Rattle.ground.proofs.Cases.{by, split}
use Rattle.ground.proofs.Same.{same-sound}
use Rattle.format.specs.Bytes.{is_capital, is_letter, capital}
use Rattle.format.specs.Numbers.{is_number, number_in}
use Rattle.format.specs.Units.{UnitRow, no_unit, units, same_letters, unit_from, unit_of, is_unit, unit_at, unit_name, decimals_of, decimals_for, decimals_named}

-- ---- letters without their case

letter-capital : (b : ℕ) → is_letter b ≡ is_capital (capital b)
unfolding is_letter is_capital capital
letter-capital b =
    split 97 b
    (λ h. split b 122
    (λ k. rw (le-leb 97 b h, le-leb b 122 k, le-leb 65 (b - 32) (omega arith), le-leb (b - 32) 90 (omega arith)) (or-true (is_capital b)))
    (λ k. rw (lt-leb b 122 k, and-false (leb 97 b)) (or-false (is_capital b))))
    (λ h. rw (lt-leb 97 b h) (or-false (is_capital b)))

all-capitals : (s : List ℕ) → all is_letter s ≡ all is_capital (map capital s)
all-capitals [] = refl
all-capitals (b ∷ s) = rw (letter-capital b, all-capitals s)

module _ (s t : List ℕ) (h : same_letters s t ≡ true) where
  capitals-same : map capital s ≡ map capital t
  unfolding same_letters
  capitals-same = same-sound (map capital s) (map capital t) h

  letters-length : length s ≡ length t
  letters-length = sym (length-map s capital) ∙ ap length capitals-same ∙ length-map t capital

  letters-all : all is_letter s ≡ all is_letter t
  letters-all = all-capitals s ∙ ap (all is_capital) capitals-same ∙ sym (all-capitals t)

-- ---- what holds of every row

all_get_d : {X : Type 0} (p : X → Bool) (x : X) → p x ≡ true → (xs : List X) → all p xs ≡ true → (i : ℕ) → p (get_or xs i x) ≡ true
all_get_d p x h [] a i = h
all_get_d p x h (y ∷ ys) a zero = (and-true (p y) (all p ys) a).0
all_get_d p x h (y ∷ ys) a (suc i) = all_get_d p x h ys (and-true (p y) (all p ys) a).1 i

pub decimals-most : (u : ℕ) → decimals_of u ≤ 6
unfolding decimals_of unit_at units
decimals-most u = leb-true _ _ (all_get_d (λ (r : UnitRow). leb r.digits 6) no_unit refl units refl u)

all-at : {X : Type 0} (p : X → Bool) (x : X) (xs : List X) → all p xs ≡ true → (i : ℕ) → i < length xs → p (get_or xs i x) ≡ true
all-at p x [] a i l = absurd (omega arith)
all-at p x (y ∷ ys) a zero l = (and-true (p y) (all p ys) a).0
all-at p x (y ∷ ys) a (suc i) l = all-at p x ys (and-true (p y) (all p ys) a).1 i (omega arith)

digits-some : (u : ℕ) → is_unit u ≡ true → 1 ≤ decimals_of u
unfolding decimals_of unit_at units is_unit
digits-some u h = leb-true _ _ (all-at (λ (r : UnitRow). leb 1 r.digits) no_unit units refl u (ltb-true u 23 h))

pub named-most : (s : List ℕ) → decimals_named s ≤ 6
unfolding decimals_named
named-most s = one (unit_of s)
  where
    one : (x : Option ℕ) → decimals_for x ≤ 6
    one (Some u) = decimals-most u
    one None = omega arith

pub name-most : (u : ℕ) → length (unit_name u) ≤ 5
unfolding unit_name unit_at units
name-most u = leb-true _ _ (all_get_d (λ (r : UnitRow). leb (length r.name) 5) no_unit refl units refl u)

-- ---- a unit by its name

-- the row that is found has the name
pub record Found (i : ℕ) (us : List UnitRow) (s : List ℕ) (u : ℕ) : Type 0 where
  pub low : i ≤ u
  pub high : u < i + length us
  pub named : same_letters (get_or us (u - i) no_unit).name s ≡ true

unit-found : (i : ℕ) (us : List UnitRow) (s : List ℕ) (u : ℕ) → unit_from i us s ≡ Some u → Found i us s u
unfolding unit_from
unit-found i [] s u e = let z : ◌≡◌ {A = ℕ} 0 1 = cc in absurd (omega arith)
unit-found i (r ∷ us) s u e =
    by (same_letters r.name s)
    (λ t.
    let q : i ≡ u = (let z : cond true (Some i) (unit_from (i + 1) us s) ≡ Some u = (rw t at e) in cc) in
    let o : u - i ≡ 0 = omega arith in
    record { low = omega arith; high = omega arith; named = rw o t })
    (λ t.
    let f = unit-found (i + 1) us s u (let z : cond false (Some i) (unit_from (i + 1) us s) ≡ Some u = (rw t at e) in z) in
    let o : u - i ≡ suc (u - (i + 1)) = omega (arith, f.low) in
    record { low = omega (arith, f.low); high = omega (arith, f.high); named = rw o f.named })

module _ (s : List ℕ) (u : ℕ) (e : unit_of s ≡ Some u) where
  found : Found 0 units s u
  unfolding unit_of
  found = unit-found 0 units s u e

  pub unit-known : is_unit u ≡ true
  unfolding is_unit
  unit-known = lt-ltb u (length units) (omega (arith, found.high))

  pub unit-named : same_letters (unit_name u) s ≡ true
  unfolding unit_name unit_at
  unit-named = let z : u - 0 ≡ u = omega arith in rw z at found.named

  -- "UOM 1 to 5 letters"
  pub unit-letters : all is_letter s ≡ true
  unfolding unit_name unit_at units is_letter is_capital
  unit-letters =
      sym (letters-all (unit_name u) s unit-named)
      ∙ all_get_d (λ (r : UnitRow). all is_letter r.name) no_unit refl units refl u

pub known_small : (u : ℕ) → is_unit u ≡ true → u < 23
unfolding is_unit units
known_small u h = ltb-true u 23 h

-- every field that is a unit is letters
pub unit-are-letters : (s : List ℕ) → is_number (unit_of s) ≡ true → all is_letter s ≡ true
unit-are-letters s h = one (unit_of s) refl h
  where
    one : (x : Option ℕ) → unit_of s ≡ x → is_number x ≡ true → all is_letter s ≡ true
    one (Some u) e h = unit-letters s u e
    one None e h = let z : ◌≡◌ {A = ℕ} 0 1 = cc in absurd (omega arith)

-- its number is one of the table, and its decimals are those of its row
pub unit-in : (s : List ℕ) → is_number (unit_of s) ≡ true → is_unit (number_in (unit_of s)) ≡ true
unit-in s h = one (unit_of s) refl h
  where
    one : (x : Option ℕ) → unit_of s ≡ x → is_number x ≡ true → is_unit (number_in x) ≡ true
    one (Some u) e h = unit-known s u e
    one None e h = let z : ◌≡◌ {A = ℕ} 0 1 = cc in absurd (omega arith)

pub unit-decimals : (s : List ℕ) → is_number (unit_of s) ≡ true → decimals_named s ≡ decimals_of (number_in (unit_of s))
unfolding decimals_named
unit-decimals s h = one (unit_of s) h
  where
    one : (x : Option ℕ) → is_number x ≡ true → decimals_for x ≡ decimals_of (number_in x)
    one (Some u) h = refl
    one None h = let z : ◌≡◌ {A = ℕ} 0 1 = cc in absurd (omega arith)

-- every unit has a decimal, and 01's limit does
pub named_some : (s : List ℕ) → 1 ≤ decimals_named s
unfolding decimals_named
named_some s = one (unit_of s) refl
  where
    one : (x : Option ℕ) → unit_of s ≡ x → 1 ≤ decimals_for x
    one (Some u) e = digits-some u (unit-known s u e)
    one None e = omega arith

-- ---- a unit's name says its number

-- the rows from the number i on are found by their own names
abbrev found_from : ℕ → List UnitRow → Bool
found_from i [] = true
found_from i (r ∷ us) = eqb (number_in (unit_of r.name)) i && is_number (unit_of r.name) && found_from (i + 1) us

all_found : found_from 0 units ≡ true
unfolding units unit_of unit_from same_letters same capital
all_found = refl

pub unit-back : (u : ℕ) → is_unit u ≡ true → unit_of (unit_name u) ≡ Some u
unfolding is_unit unit_name unit_at
unit-back u h = let o : 0 + u ≡ u = omega arith in rw o at (go 0 units all_found u (ltb-true u (length units) h))
  where
    is : (x : Option ℕ) (i : ℕ) → number_in x ≡ i → is_number x ≡ true → x ≡ Some i
    is (Some v) i e t = ap Some e
    is None i e t = let z : ◌≡◌ {A = ℕ} 0 1 = cc in absurd (omega arith)

    go : (i : ℕ) (us : List UnitRow) → found_from i us ≡ true → (k : ℕ) → k < length us → unit_of (get_or us k no_unit).name ≡ Some (i + k)
    go i [] a k l = absurd (omega arith)
    go i (r ∷ us) a zero l =
        let w = and-true (eqb (number_in (unit_of r.name)) i && is_number (unit_of r.name)) (found_from (i + 1) us) a in
        let x = and-true (eqb (number_in (unit_of r.name)) i) (is_number (unit_of r.name)) w.0 in
        is (unit_of r.name) (i + 0) (eqb-true _ _ x.0 ∙ omega arith) x.1
    go i (r ∷ us) a (suc k) l =
        let w = and-true (eqb (number_in (unit_of r.name)) i && is_number (unit_of r.name)) (found_from (i + 1) us) a in
        let o : i + 1 + k ≡ i + suc k = omega arith in
        rw o at (go (i + 1) us w.1 k (omega arith))
