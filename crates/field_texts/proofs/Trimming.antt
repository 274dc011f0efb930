-- What a turn and the end of the loop that trims zeros go by: of p decimals that write m, the same are left as of all six. Assumes nothing.
use Prim.Native.Nat.{ℕ, zero, suc, ◌+◌, ◌-◌, ◌/◌, ◌%◌, ◌≤◌, ◌<◌}
use mathlib.Core.Path.{◌≡◌, refl, sym, ◌∙◌}
use native.Mathlib.Omega.{arith}
use Rattle.ground.specs.Digits.{padded}
use Rattle.ground.proofs.Digits.{padded-step}
use Rattle.format.specs.Block.{untrail}
use Rattle.format.proofs.ValueText.{untrail-zero, untrail-other}
use Rattle.field_texts.specs.Trims.{Trims}

pub record Cut (f p m : ℕ) : Type 0 where
  pub within : p ≤ 6
  pub left : untrail (padded p m) ≡ untrail (padded 6 f)

module _ (f : ℕ) where
  pub cut-none : Cut f 6 f
  cut-none = record { within = omega arith; left = refl }

  pub cut-more : (p m : ℕ) → 0 < p → m % 10 ≡ 0 → Cut f p m → Cut f (p - 1) (m / 10)
  cut-more p m h e r =
      record { within = omega (arith, r.within); left = sym (untrail-zero (padded (p - 1) (m / 10))) ∙ (rw (padded-step p m h, e) at r.left) }

  pub cut-stops : (p m : ℕ) → 0 < p → (m % 10 ≡ 0 → ⊥) → Cut f p m → Trims f p m
  cut-stops p m h e r =
      let s : untrail (padded p m) ≡ padded p m = rw (padded-step p m h) (untrail-other (padded (p - 1) (m / 10)) (48 + m % 10) (λ z. e (omega arith))) in
      record { left = sym s ∙ r.left; most = r.within }

  pub cut_all : (p m : ℕ) → p < 1 → Cut f p m → Trims f 0 m
  unfolding padded untrail
  cut_all zero m h r = record { left = r.left; most = r.within }
  cut_all (suc p) m h r = absurd (omega arith)
