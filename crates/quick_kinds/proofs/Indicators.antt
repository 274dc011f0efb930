-- Indicators by their bytes: each is three digits that name a kind, and holds no comma. Assumes nothing.
use Rattle.std.proofs.Common.{Some}
use Prim.Native.Nat.{ℕ, ◌-◌, ◌*◌, ◌≤◌, ◌<◌}
use mathlib.Core.Path.{◌≡◌}
use mathlib.Core.Bool.{true}
use mathlib.Core.List.{List, [], ◌∷◌}
use native.Mathlib.Omega.{arith}
use lib.ListN.{length, get_or}
use Rattle.ground.specs.Lists.{all, other, from}
use Rattle.ground.specs.Digits.{is_digit}
use Rattle.ground.proofs.Cases.{same_or}
use Rattle.format.specs.Bytes.{are_all}
use Rattle.format.specs.Numbers.{is_number, number_of}
use Rattle.format.specs.Records.{is_kind, indicator_of}
use Rattle.format.proofs.Numbers.{digits_of}
use Rattle.ground.proofs.Bytes.{digits-plain, spelled}

hundreds : (b : ℕ) → 49 ≤ b → b ≤ 53 → indicator_of (b ∷ 48 ∷ 48 ∷ []) ≡ Some ((b - 48) * 100)
unfolding indicator_of is_kind number_of are_all is_digit
hundreds b l h =
    same_or b 49 (λ e. rw e) (λ n₁. same_or b 50 (λ e. rw e) (λ n₂. same_or b 51 (λ e. rw e) (λ n₃. same_or b 52 (λ e. rw e) (λ n₄.
    let e : b ≡ 53 = omega arith in rw e))))

module _ (s : List ℕ) (n : length s ≡ 3) (z : get_or s 2 0 ≡ 48) where
  pub kind-hundreds : get_or s 1 0 ≡ 48 → 49 ≤ get_or s 0 0 → get_or s 0 0 ≤ 53 → indicator_of s ≡ Some ((get_or s 0 0 - 48) * 100)
  unfolding from
  kind-hundreds y l h = spelled (λ t. indicator_of t ≡ Some ((get_or s 0 0 - 48) * 100)) 3 s n (rw (y, z) (hundreds (get_or s 0 0) l h))

  pub kind-250 : get_or s 1 0 ≡ 53 → get_or s 0 0 ≡ 50 → indicator_of s ≡ Some 250
  unfolding from indicator_of is_kind number_of are_all is_digit
  kind-250 y x = spelled (λ t. indicator_of t ≡ Some 250) 3 s n (rw (x, y, z))

pub kind-told : (s : List ℕ) {k : ℕ} → (0 < k → indicator_of s ≡ Some k) → 0 < k → Some k ≡ indicator_of s
kind-told s h g = rw (h g)

pub indicator-plain : (s : List ℕ) → is_number (indicator_of s) ≡ true → all (other 44) s ≡ true
unfolding indicator_of
indicator-plain s t = digits-plain s (digits_of is_kind 3 s t)
