-- A number of twelve digits is below 10^12.
-- Assumes nothing.
use Rattle.std.proofs.Common.{Option, Some}
use mathlib.Core.Path.{◌≡◌, sym, ◌∙◌}
use mathlib.Core.List.{List}
use Prim.Native.Nat.{ℕ, ◌^◌, ◌<◌}
use Rattle.format.specs.Numbers.{number_of}
use Rattle.format.proofs.Numbers.{under-is, number-under}

pub minute-below : (s : List ℕ) {x : Option ℕ} {v : ℕ} → x ≡ number_of 12 12 s → x ≡ Some v → v < 10 ^ 12
minute-below s e i = under-is (10 ^ 12) (number-under 12 12 s) (sym e ∙ i)
