-- Texts put on a page, one behind the other: four of them, and one that goes by the place that the line has come to. Assumes nothing.
use Prim.Native.Nat.{ℕ, ◌+◌, ◌-◌, ◌≤◌}
use mathlib.Core.Path.{◌≡◌, sym, ap, ◌∙◌}
use mathlib.Core.List.{List, ◌++◌}
use native.Mathlib.Omega.{arith}
use lib.ListN.{length}
use lib.Seq.{take_all, take-append-le}
use Rattle.ground.proofs.Cases.{split}
use Rattle.ground.proofs.Room.{put_as}
use Rattle.page.specs.Filled.{Filled}
use Rattle.page.proofs.Filling.{filled-then, filled-as}
use Rattle.phrase.specs.Phrases.{beside}

pub filled-four : {p₀ p₁ p₂ p₃ p₄ a b c d : List ℕ} {at i j k l : ℕ} → Filled p₀ at a i p₁ → Filled p₁ i b j p₂ → Filled p₂ j c k p₃ → Filled p₃ k d l p₄
    → Filled p₀ at (a ++ b ++ c ++ d) l p₄
filled-four w x y z = filled-then (filled-then (filled-then w x) y) z

-- where the first text leaves no room, the second does not matter
pub filled_beside : (f : ℕ → List ℕ) {l m n xs : List ℕ} {at i j : ℕ} → Filled l at xs i m → Filled m i (f i) j n → Filled l at (beside at xs f) j n
unfolding beside
filled_beside f {l} {m} {n} {xs} {at} {i} {j} p q =
    split (length xs) (length l - at)
    (λ h.
    let e : i ≡ at + length xs = p.put.behind ∙ ap (λ (z : List ℕ). at + length z) (take_all (length l - at) xs h) in
    filled-as (filled-then p q) (ap (λ (z : ℕ). xs ++ f z) e))
    (λ h.
    let k : length l - at ≤ length xs = omega arith in
    record {
      put =
          put_as (filled-then p q).put
          (take-append-le (length l - at) xs (f i) k ∙ sym (take-append-le (length l - at) xs (f (at + length xs)) k));
    })
