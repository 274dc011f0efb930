-- The check passes exactly where the ranges lie apart in the first m bytes. Assumes nothing.
use Prim.Native.Nat.{ℕ, zero, suc, ◌+◌, ◌≤◌, ◌<◌}
use mathlib.Core.Path.{◌≡◌, refl, sym, ap, ◌∙◌}
use mathlib.Core.List.{List, [], ◌∷◌}
use mathlib.Core.Bool.{true, ◌&&◌, false≢true}
use native.Mathlib.Omega.{arith}
use lib.ListN.{length, get_or}
use borrow.Author.Tests.{leb-true, le-leb, eqb-true, eq-eqb}
use Rattle.ground.proofs.Tests.{and-true}
use Rattle.ground.proofs.Cases.{split, same_or, both}
use Rattle.store.specs.Ranges.{inside, apart, clear, laid}
use Rattle.ranges.specs.Laid.{Laid}
use Rattle.ranges.proofs.Checks.{apart-empty, apart-before, apart-behind, apart-else, inside-none, inside-some}

-- ---- two ranges

apart-tells : (o n p k : ℕ) → apart o n p k ≡ true → 0 < n → 0 < k → p < o + n → p + k ≤ o
apart-tells o n p k t a b h =
    split (p + k) o (λ g. g) (λ g. absurd (omega (arith, eqb-true k 0 (apart-else o n p k h g (omega arith) ∙ t))))

apart-told : (o n p k : ℕ) → (0 < n → 0 < k → p < o + n → p + k ≤ o) → apart o n p k ≡ true
apart-told o n p k f =
    split (o + n) p (λ h. sym (apart-before o n p k h)) (λ h.
    split (p + k) o (λ g. sym (apart-behind o n p k g)) (λ g.
    same_or n 0 (λ e. sym (apart-empty o n p k e)) (λ a.
    same_or k 0 (λ e. sym (apart-else o n p k h g a) ∙ eq-eqb k 0 e) (λ b. absurd (omega (arith, f (omega arith) (omega arith) h))))))

inside-tells : (m o n : ℕ) → inside m o n ≡ true → 0 < n → o + n ≤ m
inside-tells m o n t a = leb-true (o + n) m (inside-some m o n (omega arith) ∙ t)

inside-told : (m o n : ℕ) → (0 < n → o + n ≤ m) → inside m o n ≡ true
inside-told m o n f =
    same_or n 0 (λ e. sym (inside-none m o n e)) (λ a. sym (inside-some m o n a) ∙ le-leb (o + n) m (f (omega arith)))

-- ---- a range against others

clear-tells : (o n : ℕ) (os ns : List ℕ) (i : ℕ) → clear o n os ns ≡ true → i < length os → i < length ns → apart o n (get_or os i 0) (get_or ns i 0) ≡ true
unfolding clear
clear-tells o n [] ns i t a b = absurd (omega arith)
clear-tells o n (p ∷ os) [] i t a b = absurd (omega arith)
clear-tells o n (p ∷ os) (k ∷ ns) zero t a b = (and-true (apart o n p k) (clear o n os ns) t).0
clear-tells o n (p ∷ os) (k ∷ ns) (suc i) t a b = clear-tells o n os ns i (and-true (apart o n p k) (clear o n os ns) t).1 (omega arith) (omega arith)

clear_told : (o n : ℕ) (os ns : List ℕ) → ((i : ℕ) → i < length os → i < length ns → apart o n (get_or os i 0) (get_or ns i 0) ≡ true) → clear o n os ns ≡ true
unfolding clear
clear_told o n [] ns f = refl
clear_told o n (p ∷ os) [] f = refl
clear_told o n (p ∷ os) (k ∷ ns) f =
    both (apart o n p k) (clear o n os ns) (f 0 (omega arith) (omega arith)) (clear_told o n os ns (λ i a b. f (suc i) (omega arith) (omega arith)))

-- ---- all

pub laid-means : (m : ℕ) (os ns : List ℕ) → laid m os ns ≡ true → Laid os ns m
unfolding laid
laid-means m [] [] t = record { as_many = refl; inside = λ i a. absurd (omega arith); apart = λ i j a. absurd (omega arith) }
laid-means m [] (n ∷ ns) t = absurd (false≢true t)
laid-means m (o ∷ os) [] t = absurd (false≢true t)
laid-means m (o ∷ os) (n ∷ ns) t =
    let x = and-true (inside m o n && clear o n os ns) (laid m os ns) t in
    let y = and-true (inside m o n) (clear o n os ns) x.0 in
    let r = laid-means m os ns x.1 in
    record {
      as_many = let e = r.as_many in omega arith;
      inside = inside-all m o n os ns y.0 r;
      apart = apart-all m o n os ns y.1 r;
    }
  where
    inside-all : (m o n : ℕ) (os ns : List ℕ) → inside m o n ≡ true → Laid os ns m → (i : ℕ) → i < suc (length os) → 0 < get_or (n ∷ ns) i 0
        → get_or (o ∷ os) i 0 + get_or (n ∷ ns) i 0 ≤ m
    inside-all m o n os ns t r zero a h = inside-tells m o n t h
    inside-all m o n os ns t r (suc i) a h = r.inside i (omega arith) h

    apart-all : (m o n : ℕ) (os ns : List ℕ) → clear o n os ns ≡ true → Laid os ns m → (i j : ℕ) → i < suc (length os) → j < suc (length os)
        → 0 < get_or (n ∷ ns) i 0 → 0 < get_or (n ∷ ns) j 0 → get_or (o ∷ os) i 0 ≤ get_or (o ∷ os) j 0 → (i ≡ j → ⊥)
        → get_or (o ∷ os) i 0 + get_or (n ∷ ns) i 0 ≤ get_or (o ∷ os) j 0
    apart-all m o n os ns t r zero zero a b h k g d = absurd (d refl)
    apart-all m o n os ns t r zero (suc j) a b h k g d =
        let z = apart-tells o n (get_or os j 0) (get_or ns j 0) (clear-tells o n os ns j t (omega arith) (omega (arith, r.as_many))) h k in
        split (o + n) (get_or os j 0) (λ y. y) (λ y. absurd (omega (arith, z y)))
    apart-all m o n os ns t r (suc i) zero a b h k g d =
        let z = apart-tells o n (get_or os i 0) (get_or ns i 0) (clear-tells o n os ns i t (omega arith) (omega (arith, r.as_many))) k h in
        z (omega arith)
    apart-all m o n os ns t r (suc i) (suc j) a b h k g d = r.apart i j (omega arith) (omega arith) h k g (λ e. d (ap suc e))

pub laid-rest : (o n m : ℕ) (os ns : List ℕ) → Laid (o ∷ os) (n ∷ ns) m → Laid os ns m
laid-rest o n m os ns l =
    record {
      as_many = let e = l.as_many in omega arith;
      inside = λ i a h. l.inside (suc i) (omega arith) h;
      apart = λ i j a b h k g d. l.apart (suc i) (suc j) (omega arith) (omega arith) h k g (λ e. d (omega arith));
    }

pub laid-checked : (m : ℕ) (os ns : List ℕ) → Laid os ns m → laid m os ns ≡ true
unfolding laid
laid-checked m [] [] l = refl
laid-checked m [] (n ∷ ns) l = absurd (let e = l.as_many in omega arith)
laid-checked m (o ∷ os) [] l = absurd (let e = l.as_many in omega arith)
laid-checked m (o ∷ os) (n ∷ ns) l =
    both (inside m o n && clear o n os ns) (laid m os ns)
    (both (inside m o n) (clear o n os ns)
    (inside-told m o n (λ h. l.inside 0 (omega arith) h))
    (clear_told o n os ns (λ i a b. apart-told o n (get_or os i 0) (get_or ns i 0) (λ h k g.
    split o (get_or os i 0)
    (λ y. absurd (omega (arith, l.apart 0 (suc i) (omega arith) (omega arith) h k y (λ e. omega arith))))
    (λ y. l.apart (suc i) 0 (omega arith) (omega arith) k h (omega arith) (λ e. omega arith))))))
    (laid-checked m os ns (laid-rest o n m os ns l))
