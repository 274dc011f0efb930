-- The table's bytes: what a row has at each place, by one test over the whole table. Assumes nothing.
use Prim.Native.Nat.{ℕ, zero, suc, ◌+◌, ◌*◌, ◌≤◌, ◌<◌}
use mathlib.Core.Path.{◌≡◌, refl, sym, ap, ◌∙◌}
use mathlib.Core.Bool.{Bool, true, false, ◌&&◌}
use native.Mathlib.Omega.{arith}
use lib.ListN.{length, get_or, get_or-eq_default}
use lib.Dec.{leb, eqb}
use borrow.Author.Tests.{leb-true, ltb-false, eqb-true}
use Rattle.ground.proofs.Tests.{and-true}
use Rattle.ground.proofs.Cases.{same_or}
use Rattle.format.specs.Units.{UnitRow, no_unit, units, is_unit, unit_at, unit_name, decimals_of}
use Rattle.format.proofs.Units.{decimals-most, known_small}
use Rattle.units.specs.Table.{row_bytes, bytes_of, table}

-- what every number below n passes
abbrev below : ℕ → (ℕ → Bool) → Bool
below zero p = true
below (suc n) p = p n && below n p

below_at : (n : ℕ) (p : ℕ → Bool) → below n p ≡ true → (i : ℕ) → i < n → p i ≡ true
below_at zero p h i l = absurd (omega arith)
below_at (suc n) p h i l =
    let w = and-true (p n) (below n p) h in
    same_or i n (λ e. rw e w.0) (λ e. below_at n p w.1 i (omega arith))

-- the row of a unit: its name's bytes, the name's length, the decimals
abbrev name_is : ℕ → ℕ → Bool
name_is u i = eqb (get_or table (7 * u + i) 0) (get_or (unit_name u) i 0)

abbrev length_is : ℕ → Bool
length_is u = eqb (get_or table (7 * u + 5) 0) (length (unit_name u)) && leb (length (unit_name u)) 5

abbrev decimals_are : ℕ → Bool
decimals_are u = eqb (get_or table (7 * u + 6) 0) (decimals_of u)

abbrev row_is : ℕ → Bool
row_is u = below 5 (name_is u) && (length_is u && decimals_are u)

all-rows : below 23 row_is ≡ true
unfolding table bytes_of row_bytes units unit_name decimals_of unit_at
all-rows = refl

module _ (u : ℕ) (known : u < 23) where
  row_is_lem : row_is u ≡ true
  row_is_lem = below_at 23 row_is all-rows u known

  parts : (below 5 (name_is u) ≡ true) × (length_is u ≡ true) × (decimals_are u ≡ true)
  parts =
      let a = and-true (below 5 (name_is u)) (length_is u && decimals_are u) row_is_lem in
      let b = and-true (length_is u) (decimals_are u) a.1 in
      (a.0, b.0, b.1)

  pub name-at : {r : ℕ} (i : ℕ) → i < 5 → r ≡ get_or table (7 * u + i) 0 → r ≡ get_or (unit_name u) i 0
  name-at i h e = e ∙ eqb-true _ _ (below_at 5 (name_is u) parts.0 i h)

  pub length_at : {r : ℕ} → r ≡ get_or table (7 * u + 5) 0 → r ≡ length (unit_name u)
  length_at e = e ∙ eqb-true _ _ (and-true (eqb (get_or table (7 * u + 5) 0) (length (unit_name u))) (leb (length (unit_name u)) 5) parts.1).0

  pub length-few : {r : ℕ} → r ≡ get_or table (7 * u + 5) 0 → r ≤ 5
  length-few e =
      let l = leb-true (length (unit_name u)) 5 (and-true (eqb (get_or table (7 * u + 5) 0) (length (unit_name u))) (leb (length (unit_name u)) 5) parts.1).1 in
      omega (arith, length_at e)

  pub decimals-at : {r : ℕ} → r ≡ get_or table (7 * u + 6) 0 → r ≡ decimals_of u
  decimals-at e = e ∙ eqb-true _ _ parts.2

  pub decimals-few : {r : ℕ} → r ≡ get_or table (7 * u + 6) 0 → r ≤ 6
  decimals-few e = omega (arith, decimals-at e, decimals-most u)

-- a number of the table, or none
pub known : (u : ℕ) {b : Bool} → b ≡ is_unit u → b ≡ true → u < 23
known u e t = known_small u (sym e ∙ t)

pub none : (u : ℕ) {b : Bool} → b ≡ is_unit u → b ≡ false → length units ≤ u
unfolding is_unit
none u e t = ltb-false u (length units) (sym e ∙ t)

pub decimals-none : (u : ℕ) {b : Bool} → b ≡ is_unit u → b ≡ false → 0 ≡ decimals_of u
unfolding decimals_of unit_at
decimals-none u e t = sym (ap (λ (r : UnitRow). r.digits) (get_or-eq_default units no_unit (none u e t)))
