-- The cases of the rules of texts, one law for a return of the code.
-- Assumes nothing.
use Rattle.std.proofs.Common.{Some, None}
use mathlib.Core.Path.{◌≡◌}
use mathlib.Core.Bool.{Bool, true, false}
use mathlib.Core.List.{List}
use Prim.Native.Nat.{ℕ}
use Rattle.ground.specs.Lists.{same}
use Rattle.ground.specs.Text.{bytes}
use Rattle.format.specs.Texts.{version_of}

module _ (s : List ℕ) {b : Bool} (e : b ≡ same s (bytes "NEM12")) where
  pub version-12 : b ≡ true → Some 12 ≡ version_of s
  unfolding version_of
  version-12 t = rw (← e, t)

  module _ {d : Bool} (q : d ≡ same s (bytes "NEM13")) (t : b ≡ false) where
    pub version-13 : d ≡ true → Some 13 ≡ version_of s
    unfolding version_of
    version-13 u = rw (← e, t, ← q, u)

    pub version-none : d ≡ false → None ≡ version_of s
    unfolding version_of
    version-none u = rw (← e, t, ← q, u)
