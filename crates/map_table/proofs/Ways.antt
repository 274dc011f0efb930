-- The ways out of reading a line, field by field. Assumes nothing.
use Rattle.std.proofs.Common.{Option, Some, None, Result, Ok, Err}
use Prim.Native.Nat.{ℕ, min, ◌≤◌, ◌<◌}
use mathlib.Core.Path.{◌≡◌}
use mathlib.Core.Bool.{Bool, true, false, not}
use mathlib.Core.List.{List}
use borrow.Author.Tests.{le-leb, lt-leb, eq-eqb, ne_eqb, not-true, not-false}
use lib.ListN.{length}
use lib.Dec.{eqb}
use Rattle.format.specs.Cut.{fields, field}
use Rattle.format.specs.Numbers.{number_of}
use Rattle.format.specs.Texts.{is_nmi, is_suffix}
use Rattle.map_table.specs.Rows.{used, unused, number_up_to, with_share, without_key, is_keyless, keyed, row_of}
use Rattle.map_table.specs.declared.Row.{Row}
use Rattle.map_table.specs.declared.Fault.{Fault}
use Rattle.map_table.specs.declared.Fault.TheVariants as fault

-- ---- a number

module _ (most : ℕ) (s : List ℕ) {x : Option ℕ} (d : x ≡ number_of 1 (min 4 14) s) where
  pub number-within : (n : ℕ) → x ≡ Some n → n ≤ most → Some n ≡ number_up_to most s
  unfolding number_up_to
  number-within n e h = rw (← d, e, le-leb n most h)

  pub number-above : (n : ℕ) → x ≡ Some n → most < n → None ≡ number_up_to most s
  unfolding number_up_to
  number-above n e h = rw (← d, e, lt-leb n most h)

  pub number-none : x ≡ None → None ≡ number_up_to most s
  unfolding number_up_to
  number-none e = rw (← d, e)

-- ---- a share

module _ (output : ℕ) (s : List ℕ) {x : Option ℕ} (d : x ≡ number_up_to 1000 s) where
  pub share-is : (n : ℕ) → x ≡ Some n → Ok (used output n) ≡ with_share output (number_up_to 1000 s)
  share-is n e = rw (← d, e)

  pub share-none : x ≡ None → Err fault.Share ≡ with_share output (number_up_to 1000 s)
  share-none e = rw (← d, e)

  pub unused-is : (n : ℕ) → x ≡ Some n → n ≡ 0 → Ok (unused output) ≡ without_key output (number_up_to 1000 s)
  unused-is n e z = rw (← d, e, eq-eqb n 0 z)

  pub unused-shared : (n : ℕ) → x ≡ Some n → (n ≡ 0 → ⊥) → Err fault.NoKey ≡ without_key output (number_up_to 1000 s)
  unused-shared n e z = rw (← d, e, ne_eqb n 0 z)

  pub unused-none : x ≡ None → Err fault.Share ≡ without_key output (number_up_to 1000 s)
  unused-none e = rw (← d, e)

-- ---- a key

module _ (output : ℕ) (nmi suffix share : List ℕ) {a : Bool} (k : a ≡ is_keyless nmi suffix) where
  pub keyless : a ≡ true → {r : Result Row Fault} → r ≡ without_key output (number_up_to 1000 share) → r ≡ keyed output nmi suffix share
  unfolding keyed
  keyless t e = rw (← k, t) e

  module _ (f : a ≡ false) {b : Bool} (n : b ≡ is_nmi nmi) where
    pub no-nmi : not b ≡ true → Err fault.Nmi ≡ keyed output nmi suffix share
    unfolding keyed
    no-nmi t = rw (← k, f, ← n, not-true b t)

    module _ (g : not b ≡ false) {d : Bool} (s : d ≡ is_suffix suffix) where
      pub no-suffix : not d ≡ true → Err fault.Suffix ≡ keyed output nmi suffix share
      unfolding keyed
      no-suffix t = rw (← k, f, ← n, not-false b g, ← s, not-true d t)

      pub with_all : not d ≡ false → {r : Result Row Fault} → r ≡ with_share output (number_up_to 1000 share) → r ≡ keyed output nmi suffix share
      unfolding keyed
      with_all t e = rw (← k, f, ← n, not-false b g, ← s, not-false d t) e

-- ---- a line

module _ (s : List ℕ) {a : Bool} (l : a ≡ eqb (length (fields s)) 4) where
  pub not-four : not a ≡ true → Err fault.Fields ≡ row_of s
  unfolding row_of
  not-four t = rw (← l, not-true a t)

  module _ (f : not a ≡ false) {o : List ℕ} (h : o ≡ field 0 (fields s)) {x : Option ℕ} (d : x ≡ number_up_to 127 o) where
    pub no_output : x ≡ None → Err fault.Output ≡ row_of s
    unfolding row_of
    no_output e = rw (← l, not-false a f, ← h, ← d, e)

    pub row_is_lem : (n : ℕ) → x ≡ Some n → {nmi suffix share : List ℕ} → nmi ≡ field 1 (fields s) → suffix ≡ field 2 (fields s) → share ≡ field 3 (fields s)
        → {r : Result Row Fault} → r ≡ keyed n nmi suffix share → r ≡ row_of s
    unfolding row_of
    row_is_lem n e g i j q = rw (← l, not-false a f, ← h, ← d, e, ← g, ← i, ← j) q
