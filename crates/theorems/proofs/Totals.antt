-- Every total that a reading finds in an accepted file is below 2^64. Assumes nothing.
use Prim.Native.Nat.{ℕ, ◌^◌, ◌<◌}
use mathlib.Core.Path.{◌≡◌}
use mathlib.Core.List.{List, [], ◌∷◌}
use Rattle.format.specs.Cut.{lines}
use Rattle.format.specs.Answers.{accepted}
use Rattle.format.specs.File.{check_of}
use Rattle.format.specs.Total.{totals_from}
use Rattle.theorems.specs.Grammar.{Each}
use Rattle.theorems.proofs.Format.{format}
use Rattle.theorems.proofs.Days.{channel-totals}
use Rattle.theorems.proofs.Bounds.{totals-fit}

-- as a reading finds them in an accepted file
pub every-total : (file : List ℕ) (v c d : ℕ) → check_of file ≡ accepted (v ∷ c ∷ d ∷ []) → Each (λ t. t < 2 ^ 64) (totals_from (lines file))
every-total file v c d e = let h = (format file v c d).0 e in rw (channel-totals file v c d h) (totals-fit file v c d h)
