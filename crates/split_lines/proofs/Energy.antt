-- The last letter of a unit's name. Assumes nothing.
use Prim.Native.Nat.{ℕ, ◌-◌, ◌≤◌}
use mathlib.Core.Path.{◌≡◌, ap, ◌∙◌}
use mathlib.Core.List.{List}
use native.Mathlib.Omega.{arith}
use lib.ListN.{length, get_or}
use lib.Dec.{eqb, ltb}
use borrow.Author.Tests.{le-ltb}
use Rattle.format.specs.Bytes.{capital}
use Rattle.page.proofs.Listed.{past_end}
use Rattle.split_lines.specs.Lines.{is_energy}

pub no-letter : (unit : List ℕ) → length unit ≤ 0 → ltb 0 (length unit) ≡ is_energy unit
unfolding is_energy capital
no-letter unit h = le-ltb 0 (length unit) h ∙ ap (λ (x : ℕ). eqb (capital x) 72) (past_end unit (length unit - 1) (omega arith))

pub last_letter : (unit : List ℕ) {r : ℕ} → r ≡ capital (get_or unit (length unit - 1) 0) → eqb r 72 ≡ is_energy unit
unfolding is_energy
last_letter unit e = ap (λ (x : ℕ). eqb x 72) e
