-- The cases of a quality, as the code meets them.
-- Assumes nothing.
use Rattle.std.proofs.Common.{Option, Some, None}
use mathlib.Core.Path.{◌≡◌, sym, ◌∙◌}
use mathlib.Core.Bool.{Bool, true, false}
use mathlib.Core.List.{List}
use Prim.Native.Nat.{ℕ, ◌-◌, ◌^◌}
use native.Mathlib.Omega.{arith}
use lib.ListN.{length, get_or, take, drop, get_or-eq_default}
use mir.Val.{Fits}
use mir.Syntax.{w8}
use Rattle.ground.proofs.Tests.{tests}
use Rattle.ground.proofs.Lists.{to_end}
use Rattle.format.specs.Numbers.{number_of}
use Rattle.format.specs.Quality.{quality_of, stands_alone, takes_method, grade}
use Rattle.format.proofs.Numbers.{under-is, number-under}

-- a method fits a byte
pub method-fits : (s : List ℕ) {x : Option ℕ} {v : ℕ} → x ≡ number_of 2 2 s → x ≡ Some v → Fits w8 v
method-fits s e i = omega (arith, under-is (10 ^ 2) (number-under 2 2 s) (sym e ∙ i))

module _ (k : ℕ) (s : List ℕ) where
  pub quality-none : length s ≡ 0 → None ≡ quality_of k s
  unfolding quality_of stands_alone takes_method
  quality-none h = rw (get_or-eq_default s 0 {n = 0} (omega arith))

  module _ {b : Bool} (e : b ≡ stands_alone k (get_or s 0 0)) where
    pub quality-alone : b ≡ true → length s ≡ 1 → Some (grade (get_or s 0 0) 255) ≡ quality_of k s
    unfolding quality_of
    quality-alone t h = rw (← e, t, h)

    pub quality-long : b ≡ true → (length s ≡ 1 → ⊥) → None ≡ quality_of k s
    unfolding quality_of
    quality-long t h = rw (← e, t) (search tests)

    module _ {d : Bool} (g : d ≡ takes_method (get_or s 0 0)) (t : b ≡ false) where
      pub quality-other : d ≡ false → None ≡ quality_of k s
      unfolding quality_of
      quality-other u = rw (← e, t, ← g, u)

      module _ {x : Option ℕ} (m : x ≡ number_of 2 2 (take (length s - 1) (drop 1 s))) (u : d ≡ true) where
        pub quality-is : {v : ℕ} → x ≡ Some v → Some (grade (get_or s 0 0) v) ≡ quality_of k s
        unfolding quality_of
        quality-is i = rw (← e, t, ← g, u, ← to_end, ← m, i)

        pub quality-bad : x ≡ None → None ≡ quality_of k s
        unfolding quality_of
        quality-bad i = rw (← e, t, ← g, u, ← to_end, ← m, i)
