-- Ranges that lie apart: in more bytes, fewer of them, one more behind them. Assumes nothing.
use Prim.Native.Nat.{ℕ, ◌+◌, ◌≤◌, ◌<◌}
use mathlib.Core.Path.{◌≡◌, sym, ap, ◌∙◌}
use mathlib.Core.List.{List}
use native.Mathlib.Omega.{arith}
use lib.ListN.{length, get_or, set, length-set}
use lib.Seq.{get_or-set_same, get_or-set_other}
use Rattle.ground.proofs.Cases.{same_or}
use Rattle.ranges.specs.Laid.{Laid}

-- what lies in fewer bytes lies in more
pub laid-wide : {os ns : List ℕ} {m k : ℕ} → Laid os ns m → m ≤ k → Laid os ns k
laid-wide l h = record { as_many = l.as_many; inside = λ i a b. omega (arith, l.inside i a b); apart = l.apart }

-- fewer ranges, each where it lay
pub laid-fewer : {os ns ps qs : List ℕ} {m : ℕ} → Laid os ns m → length ps ≡ length qs → length ps ≡ length os
    → ((i : ℕ) → i < length ps → 0 < get_or qs i 0 → get_or ps i 0 ≡ get_or os i 0)
    → ((i : ℕ) → i < length ps → 0 < get_or qs i 0 → get_or qs i 0 ≡ get_or ns i 0) → Laid ps qs m
laid-fewer l a b f g =
    record {
      as_many = a;
      inside = λ i h x. omega (arith, f i h x, g i h x, l.inside i (omega arith) (omega (arith, g i h x)));
      apart =
          λ i j h k x y o d.
          omega (
            arith,
            f i h x,
            g i h x,
            f j k y,
            g j k y,
            l.apart i j (omega arith) (omega arith) (omega (arith, g i h x)) (omega (arith, g j k y)) (omega (arith, f i h x, f j k y)) d,
          );
    }

-- one range more, behind the others
pub laid-set : {os ns : List ℕ} {m : ℕ} (s n : ℕ) → Laid os ns m → s < length os → Laid (set os s m) (set ns s n) (m + n)
laid-set {os} {ns} {m} s n l h =
    let u = length-set os s m in
    let v = length-set ns s n in
    let e = l.as_many in
    let a : get_or (set os s m) s 0 ≡ m = get_or-set_same os s m 0 h in
    let b : get_or (set ns s n) s 0 ≡ n = get_or-set_same ns s n 0 (omega arith) in
    let f : (i : ℕ) → (i ≡ s → ⊥) → get_or (set os s m) i 0 ≡ get_or os i 0 = λ i d. get_or-set_other os s i m 0 d in
    let g : (i : ℕ) → (i ≡ s → ⊥) → get_or (set ns s n) i 0 ≡ get_or ns i 0 = λ i d. get_or-set_other ns s i n 0 d in
    let at : (i : ℕ) → i ≡ s → get_or (set os s m) i 0 ≡ m = λ i d. ap (λ (k : ℕ). get_or (set os s m) k 0) d ∙ a in
    let of : (i : ℕ) → i ≡ s → get_or (set ns s n) i 0 ≡ n = λ i d. ap (λ (k : ℕ). get_or (set ns s n) k 0) d ∙ b in
    let in-old : (i : ℕ) → i < length (set os s m) → (i ≡ s → ⊥) → 0 < get_or (set ns s n) i 0 → get_or (set os s m) i 0 + get_or (set ns s n) i 0 ≤ m =
    λ i y d x. omega (arith, f i d, g i d, l.inside i (omega arith) (omega (arith, g i d))) in
    record {
      as_many = omega arith;
      inside = λ i y x. same_or i s (λ d. omega (arith, at i d, of i d)) (λ d. omega (arith, in-old i y d x));
      apart =
          λ i j y z x w o d.
          same_or i s
          (λ p. same_or j s (λ q. absurd (d (p ∙ sym q))) (λ q. absurd (omega (arith, at i p, in-old j z q w))))
          (λ p.
          same_or j s
          (λ q. omega (arith, at j q, in-old i y p x))
          (λ q.
          omega (
            arith,
            f i p,
            g i p,
            f j q,
            g j q,
            l.apart i j (omega arith) (omega arith) (omega (arith, g i p)) (omega (arith, g j q)) (omega (arith, f i p, f j q)) d,
          )));
    }
