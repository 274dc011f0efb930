-- Tests of the used slots, said of slot numbers: of each one, and of each two. Assumes nothing.
use Prim.Native.Nat.{ℕ, zero, suc, ◌+◌, ◌≤◌, ◌<◌}
use mathlib.Core.Path.{◌≡◌, refl, sym, ap, ◌∙◌}
use mathlib.Core.Bool.{Bool, true, false, true≢false}
use mathlib.Core.List.{◌∷◌}
use native.Mathlib.Omega.{arith}
use Rattle.ground.specs.Lists.{all}
use Rattle.ground.proofs.Tests.{and-true}
use Rattle.ground.proofs.Cases.{by, same_or}
use Rattle.store.specs.Used.{used, used_from}
use Rattle.store.specs.Store.{pairwise}

module _ (map : ℕ) where
  -- the used slots from slot i on, by the first of them
  used-here : (i k : ℕ) → used map i ≡ true → used_from map i (suc k) ≡ i ∷ used_from map (suc i) k
  unfolding used_from
  used-here i k t = rw t

  free-here : (i k : ℕ) → used map i ≡ false → used_from map i (suc k) ≡ used_from map (suc i) k
  unfolding used_from
  free-here i k t = rw t

  pub each-used : (p : ℕ → Bool) (i k : ℕ) → all p (used_from map i k) ≡ true → (j : ℕ) → i ≤ j → j < i + k → used map j ≡ true → p j ≡ true
  each-used p i zero e j h g u = absurd (let z : ⊥ = omega arith in z)
  each-used p i (suc k) e j h g u =
      by (used map i)
      (λ t.
      let w = and-true (p i) (all p (used_from map (suc i) k)) (rw (used-here i k t) at e) in
      same_or i j (λ q. ap p (sym q) ∙ w.0) (λ q. each-used p (suc i) k w.1 j (omega arith) (omega arith) u))
      (λ t.
      same_or i j
      (λ q. absurd (true≢false (sym u ∙ ap (used map) (sym q) ∙ t)))
      (λ q. each-used p (suc i) k (rw (free-here i k t) at e) j (omega arith) (omega arith) u))

  pub used-each : (p : ℕ → Bool) (i k : ℕ) → ((j : ℕ) → i ≤ j → j < i + k → used map j ≡ true → p j ≡ true) → all p (used_from map i k) ≡ true
  unfolding used_from
  used-each p i zero f = refl
  used-each p i (suc k) f =
      let r = used-each p (suc i) k (λ j h g u. f j (omega arith) (omega arith) u) in
      by (used map i) (λ t. rw (t, f i (omega arith) (omega arith) t) r) (λ t. rw t r)

  pub pair-used : (p : ℕ → ℕ → Bool) (i k : ℕ) → pairwise p (used_from map i k) ≡ true
      → (x y : ℕ) → i ≤ x → x < y → y < i + k → used map x ≡ true → used map y ≡ true → p x y ≡ true
  unfolding pairwise
  pair-used p i zero e x y h g l u v = absurd (let z : ⊥ = omega arith in z)
  pair-used p i (suc k) e x y h g l u v =
      by (used map i)
      (λ t.
      let w = and-true (all (p i) (used_from map (suc i) k)) (pairwise p (used_from map (suc i) k)) (rw (used-here i k t) at e) in
      same_or i x
      (λ q. ap (λ (j : ℕ). p j y) (sym q) ∙ each-used (p i) (suc i) k w.0 y (omega arith) (omega arith) v)
      (λ q. pair-used p (suc i) k w.1 x y (omega arith) g (omega arith) u v))
      (λ t.
      same_or i x
      (λ q. absurd (true≢false (sym u ∙ ap (used map) (sym q) ∙ t)))
      (λ q. pair-used p (suc i) k (rw (free-here i k t) at e) x y (omega arith) g (omega arith) u v))

  pub used_pair : (p : ℕ → ℕ → Bool) (i k : ℕ)
      → ((x y : ℕ) → i ≤ x → x < y → y < i + k → used map x ≡ true → used map y ≡ true → p x y ≡ true) → pairwise p (used_from map i k) ≡ true
  unfolding used_from pairwise
  used_pair p i zero f = refl
  used_pair p i (suc k) f =
      let r = used_pair p (suc i) k (λ x y h g l u v. f x y (omega arith) g (omega arith) u v) in
      by (used map i)
      (λ t. rw (t, used-each (p i) (suc i) k (λ j h g u. f i j (omega arith) (omega arith) (omega arith) t u)) r)
      (λ t. rw t r)
